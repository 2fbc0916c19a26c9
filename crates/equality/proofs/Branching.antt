-- The nodes are at most 2 × P − 1 (theorem 5). φ is the product over the conditions without a true term of one plus their open "same" terms: the
-- same branch drops the taken condition's factor 1 + w to 1, the apart branch to at most w, and no other factor grows.
use Prim.Native.Nat.{ℕ, suc, ◌+◌, ◌*◌, ◌≤◌, ◌<◌}
use mathlib.Core.Bool.{Bool, true, false, cond, or-true, false≢true}
use mathlib.Core.List.{List, [], ◌∷◌, ◌++◌}
use mathlib.Core.Path.{◌≡◌, refl, sym, ap, ◌∙◌}
use native.Mathlib.Nat.{le_refl, mul-add, add-mul, mul-le-mul, mul-pos}
use native.Mathlib.Omega.{arith}
use Rattle.sheet.specs.Conditions.{Term, same, apart}
use Rattle.buffers.specs.Lists.{All}
use Rattle.equality.specs.Meaning.{any_term}
use Rattle.equality.specs.Node.{Decisions, marked_apart, Value, is_true, is_false, is_open, value, split, node}
use Rattle.equality.specs.Search.{same_terms, node_count, search_tree, branching}
use Rattle.equality.proofs.Tests.{or_cases}
use Rattle.equality.specs.Opens.{closed, opens}
use Rattle.equality.proofs.Node.{open_same, taken-values}
use Rattle.equality.proofs.Steps.{same-closed, apart-closed, same_shares, apart_closes, open_not_closed}
use Rattle.equality.proofs.Truth.{same_true, apart_true}
use Rattle.equality.proofs.Rule.{split_at}
use Rattle.equality.proofs.Opens.{opens-same, opens_fall, opens_fewer, Further}
use Rattle.equality.proofs.Bounds.{search_count}

-- ---- φ

abbrev pub is_true_value : Value → Bool
is_true_value is_true = true
is_true_value is_false = false
is_true_value is_open = false

abbrev pub has_true : Decisions → List Term → Bool
has_true ds ts = any_term (λ t. is_true_value (value ds t)) ts

abbrev pub weight : Decisions → List Term → ℕ
weight ds ts = cond (has_true ds ts) 1 (suc (opens ds ts))

unfoldable pub weights : Decisions → List (List Term) → ℕ
weights ds [] = 1
weights ds (ts ∷ tss) = weight ds ts * weights ds tss

weight_positive : (ds : Decisions) (ts : List Term) → 1 ≤ weight ds ts
weight_positive ds ts = go (has_true ds ts)
  where
    go : (p : Bool) → 1 ≤ cond p 1 (suc (opens ds ts))
    go true = omega arith
    go false = omega arith

pub weights_positive : (ds : Decisions) (tss : List (List Term)) → 1 ≤ weights ds tss
unfolding weights
weights_positive ds [] = omega arith
weights_positive ds (ts ∷ tss) = mul-pos (weight_positive ds ts) (weights_positive ds tss)

-- ---- a further decision makes no factor larger

true_value : (v : Value) → is_true_value v ≡ true → v ≡ is_true
true_value is_true e = refl
true_value is_false e = absurd (false≢true e)
true_value is_open e = absurd (false≢true e)

-- Closed pairs stay closed and true terms stay true.
pub record Grows (ds ds' : Decisions) : Type 0 where
  pub closes : Further ds ds'
  pub trues : (t : Term) → value ds t ≡ is_true → value ds' t ≡ is_true

module _ (ds ds' : Decisions) (grows : Grows ds ds') where
  has_true_stays : (ts : List Term) → has_true ds ts ≡ true → has_true ds' ts ≡ true
  unfolding any_term
  has_true_stays [] e = absurd (false≢true e)
  has_true_stays (t ∷ ts) e =
      or_cases (is_true_value (value ds t)) (has_true ds ts) e
      (λ h. rw (grows.trues t (true_value (value ds t) h)))
      (λ h. simp (has_true_stays ts h, or-true))

  weight_falls : (ts : List Term) → weight ds' ts ≤ weight ds ts
  weight_falls ts = go (has_true ds ts) (has_true ds' ts) refl refl
    where
      go : (p q : Bool) → has_true ds ts ≡ p → has_true ds' ts ≡ q → cond q 1 (suc (opens ds' ts)) ≤ cond p 1 (suc (opens ds ts))
      go true true ep eq = omega arith
      go true false ep eq = absurd (false≢true (sym eq ∙ has_true_stays ts ep))
      go false true ep eq = omega arith
      go false false ep eq = omega (arith, opens_fall ds ds' grows.closes ts)

  weights_fall : (tss : List (List Term)) → weights ds' tss ≤ weights ds tss
  unfolding weights
  weights_fall [] = omega arith
  weights_fall (ts ∷ tss) = mul-le-mul (weight_falls ts) (weights_fall tss)

-- ---- sums of products

share-first : (u v w p q r : ℕ) → u + v ≤ w → p ≤ r → q ≤ r → u * p + v * q ≤ w * r
share-first u v w p q r h hp hq =
    omega (arith, mul-le-mul (le_refl u) hp, mul-le-mul (le_refl v) hq, add-mul u v r, mul-le-mul h (le_refl r))

share-second : (u v w p q r : ℕ) → u ≤ w → v ≤ w → p + q ≤ r → u * p + v * q ≤ w * r
share-second u v w p q r hu hv h =
    omega (arith, mul-le-mul hu (le_refl p), mul-le-mul hv (le_refl q), mul-add w p q, mul-le-mul (le_refl w) h)

-- ---- a split's two branches share its factor

-- The taken condition has no true term.
no_true : (ds : Decisions) (ts : List Term) → All (λ t. value ds t ≡ open_same ds t) ts → has_true ds ts ≡ false
unfolding any_term
no_true ds [] values = refl
no_true ds (t ∷ ts) values = rw values.0 (rw (not_true_one t) (no_true ds ts values.1))
  where
    not_true_one : (t : Term) → is_true_value (open_same ds t) ≡ false
    not_true_one (same a b) = go (marked_apart ds a b)
      where
        go : (p : Bool) → is_true_value (cond p is_false is_open) ≡ false
        go true = refl
        go false = refl
    not_true_one (apart a b) = refl

module _ (ds : Decisions) (a b : ℕ) (open' : closed ds a b ≡ false) where
  same_grows : Grows ds (same a b ∷ ds)
  same_grows = record { closes = same-closed ds a b; trues = same_true ds a b open' }

  apart_grows : Grows ds (apart a b ∷ ds)
  apart_grows = record { closes = apart-closed ds a b; trues = apart_true ds a b open' }

  now_true : (before after : List Term) → has_true (same a b ∷ ds) (before ++ same a b ∷ after) ≡ true
  unfolding any_term value
  now_true [] after = simp (same_shares ds a b)
  now_true (t ∷ before) after = simp (now_true before after, or-true)

  taken_shares : (before after : List Term) → has_true ds (before ++ same a b ∷ after) ≡ false
      → weight (same a b ∷ ds) (before ++ same a b ∷ after) + weight (apart a b ∷ ds) (before ++ same a b ∷ after)
      ≤ weight ds (before ++ same a b ∷ after)
  taken_shares before after none =
      rw (now_true before after) (rw none (go (has_true (apart a b ∷ ds) (before ++ same a b ∷ after))))
    where
      fewer : opens (apart a b ∷ ds) (before ++ same a b ∷ after) < opens ds (before ++ same a b ∷ after)
      fewer = opens_fewer ds (apart a b ∷ ds) apart_grows.closes a b open' (apart_closes ds a b) before after

      go : (p : Bool) → 1 + cond p 1 (suc (opens (apart a b ∷ ds) (before ++ same a b ∷ after))) ≤ suc (opens ds (before ++ same a b ∷ after))
      go true = omega (arith, fewer)
      go false = omega (arith, fewer)

  all_share : (front back : List (List Term)) (before after : List Term)
      → has_true ds (before ++ same a b ∷ after) ≡ false
      → weights (same a b ∷ ds) (front ++ (before ++ same a b ∷ after) ∷ back) + weights (apart a b ∷ ds) (front ++ (before ++ same a b ∷ after) ∷ back)
      ≤ weights ds (front ++ (before ++ same a b ∷ after) ∷ back)
  unfolding weights
  all_share [] back before after none =
      share-first _ _ _ _ _ _ (taken_shares before after none)
      (weights_fall ds (same a b ∷ ds) same_grows back)
      (weights_fall ds (apart a b ∷ ds) apart_grows back)
  all_share (ts ∷ front) back before after none =
      share-second _ _ _ _ _ _
      (weight_falls ds (same a b ∷ ds) same_grows ts)
      (weight_falls ds (apart a b ∷ ds) apart_grows ts)
      (all_share front back before after none)

-- ---- the instance

first_weight : (ts : List Term) → weight [] ts ≤ suc (same_terms ts)
first_weight ts = go (has_true [] ts)
  where
    go : (p : Bool) → cond p 1 (suc (opens [] ts)) ≤ suc (same_terms ts)
    go true = omega arith
    go false = omega (arith, opens-same [] ts)

first_weights : (tss : List (List Term)) → weights [] tss ≤ branching tss
unfolding weights branching
first_weights [] = omega arith
first_weights (ts ∷ tss) = mul-le-mul (first_weight ts) (first_weights tss)

module _ (tss : List (List Term)) where
  split_shares : (ds : Decisions) (a b : ℕ) → node ds tss ≡ split a b → weights (same a b ∷ ds) tss + weights (apart a b ∷ ds) tss ≤ weights ds tss
  split_shares ds a b e =
      let at = split_at ds tss a b e in
      let placed = at.taken.place ∙ ap (λ (ts : List Term). at.taken.front ++ ts ∷ at.taken.back) at.first.place in
      let none = no_true ds at.terms (taken-values ds at.terms at.taken.unmet) in
      rw placed
      (all_share ds a b (open_not_closed ds (same a b) at.first.opened)
      at.taken.front
      at.taken.back
      at.first.before
      at.first.after
      (rw at.first.place at none))

  -- Theorem 5: the nodes are at most 2 × P − 1.
  pub search_branching : suc (node_count (search_tree tss)) ≤ branching tss + branching tss
  search_branching =
      omega (arith, search_count tss (λ ds. weights ds tss) (λ ds. weights_positive ds tss) split_shares, first_weights tss)
