-- Open "same" terms fall at each split (theorem 4).
use Prim.Native.Nat.{ℕ, suc, ◌+◌, ◌≤◌, ◌<◌}
use mathlib.Core.Bool.{Bool, true, false, cond, false≢true}
use mathlib.Core.List.{List, [], ◌∷◌, ◌++◌}
use mathlib.Core.Path.{◌≡◌, refl, sym, ap, ◌∙◌}
use native.Mathlib.Omega.{arith}
use Rattle.sheet.specs.Conditions.{Term, same, apart}
use Rattle.buffers.specs.Lists.{All}
use Rattle.buffers.proofs.Lists.{all_at}
use Rattle.equality.specs.Node.{Decisions}
use Rattle.equality.specs.Search.{same_terms, all_same_terms}
use Rattle.equality.specs.Opens.{closed, open_count, open_in, open_in_all, opens, all_opens}
use Rattle.equality.proofs.Steps.{open_not_closed, same-closed, apart-closed, same_closes, apart_closes}
use Rattle.equality.proofs.Rule.{SplitAt}

-- They are at most the "same" terms.
pub opens-same : (ds : Decisions) (ts : List Term) → opens ds ts ≤ same_terms ts
unfolding open_in same_terms
opens-same ds [] = omega arith
opens-same ds (same a b ∷ ts) = go (closed ds a b) (opens-same ds ts)
  where
    go : (p : Bool) → opens ds ts ≤ same_terms ts → cond p 0 1 + opens ds ts ≤ suc (same_terms ts)
    go true h = omega arith
    go false h = omega arith
opens-same ds (apart a b ∷ ts) = omega (arith, opens-same ds ts)

pub opens_all_same : (ds : Decisions) (tss : List (List Term)) → all_opens ds tss ≤ all_same_terms tss
unfolding open_in_all all_same_terms
opens_all_same ds [] = omega arith
opens_all_same ds (ts ∷ tss) = omega (arith, opens-same ds ts, opens_all_same ds tss)

-- ---- one decision more

-- Whatever was closed stays closed.
abbrev pub Further : Decisions → Decisions → Type 0
Further ds ds' = (u v : ℕ) → closed ds u v ≡ true → closed ds' u v ≡ true

module _ (ds ds' : Decisions) (further : Further ds ds') where
  count_falls : (t : Term) → open_count (closed ds') t ≤ open_count (closed ds) t
  count_falls (apart a b) = omega arith
  count_falls (same a b) = go (closed ds a b) (closed ds' a b) refl refl
    where
      go : (p q : Bool) → closed ds a b ≡ p → closed ds' a b ≡ q → cond q 0 1 ≤ cond p 0 1
      go p true ep eq = omega arith
      go true false ep eq = absurd (false≢true (sym eq ∙ further a b ep))
      go false false ep eq = omega arith

  pub opens_fall : (ts : List Term) → opens ds' ts ≤ opens ds ts
  unfolding open_in
  opens_fall [] = omega arith
  opens_fall (t ∷ ts) = omega (arith, count_falls t, opens_fall ts)

  pub all_opens_fall : (tss : List (List Term)) → all_opens ds' tss ≤ all_opens ds tss
  unfolding open_in_all
  all_opens_fall [] = omega arith
  all_opens_fall (ts ∷ tss) = omega (arith, opens_fall ts, all_opens_fall tss)

  -- A "same" term that was open and is closed makes them fewer.
  module _ (a b : ℕ) (open' : closed ds a b ≡ false) (closed' : closed ds' a b ≡ true) where
    pub opens_fewer : (before after : List Term)
        → opens ds' (before ++ same a b ∷ after) < opens ds (before ++ same a b ∷ after)
    unfolding open_in
    opens_fewer [] after = simp (open', closed') (omega (arith, opens_fall after))
    opens_fewer (t ∷ before) after = omega (arith, count_falls t, opens_fewer before after)

    pub all_opens_fewer : (front back : List (List Term)) (before after : List Term)
        → all_opens ds' (front ++ (before ++ same a b ∷ after) ∷ back) < all_opens ds (front ++ (before ++ same a b ∷ after) ∷ back)
    unfolding open_in_all
    all_opens_fewer [] back before after = omega (arith, opens_fewer before after, all_opens_fall back)
    all_opens_fewer (ts ∷ front) back before after =
        omega (arith, opens_fall ts, all_opens_fewer front back before after)

-- ---- at a split

module _ (ds : Decisions) (tss : List (List Term)) (a b : ℕ) (at : SplitAt ds tss a b) where
  -- The conditions, with the taken one and its first open term in their places.
  placed : List (List Term)
  placed = at.taken.front ++ (at.first.before ++ same a b ∷ at.first.after) ∷ at.taken.back

  tss_placed : tss ≡ placed
  unfolding placed
  tss_placed = at.taken.place ∙ ap (λ (ts : List Term). at.taken.front ++ ts ∷ at.taken.back) at.first.place

  -- What holds of every term holds of the split's.
  pub split_all : (P : Term → Type 0) → All (All P) tss → P (same a b)
  unfolding placed
  split_all P all =
      all_at P at.first.before (same a b) at.first.after (all_at (All P) at.taken.front _ at.taken.back (rw tss_placed at all))

  pair_open : closed ds a b ≡ false
  pair_open = open_not_closed ds (same a b) at.first.opened

  fewer : (ds' : Decisions) → Further ds ds' → closed ds' a b ≡ true → all_opens ds' tss < all_opens ds tss
  unfolding placed
  fewer ds' further closed' =
      rw tss_placed
      (all_opens_fewer ds ds' further a b pair_open closed' at.taken.front at.taken.back at.first.before at.first.after)

  -- Theorem 4: open "same" terms fall in both branches.
  pub same_fewer : all_opens (same a b ∷ ds) tss < all_opens ds tss
  same_fewer = fewer (same a b ∷ ds) (same-closed ds a b) (same_closes ds a b)

  pub apart_fewer : all_opens (apart a b ∷ ds) tss < all_opens ds tss
  apart_fewer = fewer (apart a b ∷ ds) (apart-closed ds a b) (apart_closes ds a b)
