-- A term that is true stays true when an open pair is decided, either way.
use Prim.Native.Nat.{ℕ, min}
use mathlib.Core.Bool.{Bool, true, false, cond, ◌&&◌, ◌||◌, or_comm, or-true, false≢true}
use mathlib.Core.List.{List, [], ◌∷◌}
use mathlib.Core.Logic.{◌⊎◌, inl, inr, ⊎_elim}
use mathlib.Core.Path.{◌≡◌, refl, sym, ap₂, ◌∙◌}
use borrow.Author.Tests.{eqb-true, eqb-false, eq-eqb}
use lib.Dec.{eqb}
use lib.ListN.{get_or}
use Rattle.sheet.specs.Conditions.{Term, same, apart}
use Rattle.equality.specs.Node.{Decisions, classes, smallest_lot, share, marked, marked_apart, is_true, is_false, is_open, value}
use Rattle.equality.proofs.Tests.{or_cases}
use Rattle.equality.specs.Opens.{closed}
use Rattle.equality.proofs.Classes.{joined_to, same_class, min_either}
use Rattle.equality.proofs.Steps.{share_stays, marked_stays}

-- ---- two classes that one join makes equal were equal before, or are the two that were joined

joined_equal : (x y p q : ℕ) → joined_to x y p ≡ joined_to x y q → (p ≡ q) ⊎ (((p ≡ x) × (q ≡ y)) ⊎ ((p ≡ y) × (q ≡ x)))
joined_equal x y p q e = go (eqb p x || eqb p y) (eqb q x || eqb q y) refl refl e
  where
    one_of : (z : ℕ) → (eqb z x || eqb z y) ≡ true → (z ≡ x) ⊎ (z ≡ y)
    one_of z h = or_cases (eqb z x) (eqb z y) h (λ h. inl (eqb-true z x h)) (λ h. inr (eqb-true z y h))

    none_of : (z : ℕ) → (eqb z x || eqb z y) ≡ false → z ≡ min x y → ⊥
    none_of z h m =
        ⊎_elim (λ l. false≢true (sym h ∙ simp (eq-eqb z x (m ∙ l)))) (λ r. false≢true (sym h ∙ simp (eq-eqb z y (m ∙ r), or-true))) (min_either x y)

    both : (p ≡ x) ⊎ (p ≡ y) → (q ≡ x) ⊎ (q ≡ y) → (p ≡ q) ⊎ (((p ≡ x) × (q ≡ y)) ⊎ ((p ≡ y) × (q ≡ x)))
    both (inl a) (inl b) = inl (a ∙ sym b)
    both (inl a) (inr b) = inr (inl (a, b))
    both (inr a) (inl b) = inr (inr (a, b))
    both (inr a) (inr b) = inl (a ∙ sym b)

    go : (i j : Bool) → (eqb p x || eqb p y) ≡ i → (eqb q x || eqb q y) ≡ j → cond i (min x y) p ≡ cond j (min x y) q
        → (p ≡ q) ⊎ (((p ≡ x) × (q ≡ y)) ⊎ ((p ≡ y) × (q ≡ x)))
    go true true ei ej e = both (one_of p ei) (one_of q ej)
    go true false ei ej e = absurd (none_of q ej (sym e))
    go false true ei ej e = absurd (none_of p ei e)
    go false false ei ej e = inl e

-- ---- a mark is on the two classes, in whichever order

pub marked_sym : (cs : List ℕ) (ds : Decisions) (x y : ℕ) → marked cs ds x y ≡ marked cs ds y x
unfolding marked
marked_sym cs [] x y = refl
marked_sym cs (same a b ∷ ds) x y = marked_sym cs ds x y
marked_sym cs (apart a b ∷ ds) x y =
    ap₂ ◌||◌ (or_comm (eqb (get_or cs a 0) x && eqb (get_or cs b 0) y) (eqb (get_or cs a 0) y && eqb (get_or cs b 0) x)) (marked_sym cs ds x y)

-- ---- the values

true_share : (p q : Bool) → cond p is_false (cond q is_true is_open) ≡ is_true → (p ≡ false) × (q ≡ true)
true_share true q e = (cc, cc)
true_share false true e = (refl, refl)
true_share false false e = (refl, cc)

shared_true : (p q : Bool) → cond p is_true (cond q is_false is_open) ≡ is_true → p ≡ true
shared_true true q e = refl
shared_true false true e = cc
shared_true false false e = cc

-- A "same" term is true exactly where its lots share a class, an "apart" term where they do not and are marked.
module _ (ds : Decisions) (a b : ℕ) (open' : closed ds a b ≡ false) where
  -- The lots of a pair that is marked apart share no class after an open pair is set same.
  still_apart : (u v : ℕ) → share ds u v ≡ false → marked_apart ds u v ≡ true → share (same a b ∷ ds) u v ≡ false
  still_apart u v p q = go (share (same a b ∷ ds) u v) refl
    where
      marked' : marked_apart ds a b ≡ true → ⊥
      marked' m = false≢true (sym open' ∙ simp (m, or-true))

      impossible : (smallest_lot ds u ≡ smallest_lot ds v)
          ⊎ (((smallest_lot ds u ≡ smallest_lot ds a) × (smallest_lot ds v ≡ smallest_lot ds b)) ⊎ ((smallest_lot ds u ≡ smallest_lot ds b) × (smallest_lot ds v ≡ smallest_lot ds a)))
          → ⊥
      impossible (inl e) = eqb-false _ _ p e
      impossible (inr (inl e)) = marked' (sym (ap₂ (marked (classes ds) ds) e.0 e.1) ∙ q)
      impossible (inr (inr e)) =
          marked' (marked_sym (classes ds) ds _ _ ∙ sym (ap₂ (marked (classes ds) ds) e.0 e.1) ∙ q)

      go : (s : Bool) → share (same a b ∷ ds) u v ≡ s → s ≡ false
      go false e = refl
      go true e =
          absurd
          (impossible
          (joined_equal (smallest_lot ds a) (smallest_lot ds b) (smallest_lot ds u) (smallest_lot ds v)
          (sym (same_class ds a b u) ∙ eqb-true _ _ e ∙ same_class ds a b v)))

  pub same_true : (t : Term) → value ds t ≡ is_true → value (same a b ∷ ds) t ≡ is_true
  unfolding value
  same_true (same u v) e = rw (share_stays ds a b u v (shared_true (share ds u v) (marked_apart ds u v) e))
  same_true (apart u v) e =
      let both = true_share (share ds u v) (marked_apart ds u v) e in
      simp (still_apart u v both.0 both.1, marked_stays ds a b u v both.1)

  pub apart_true : (t : Term) → value ds t ≡ is_true → value (apart a b ∷ ds) t ≡ is_true
  unfolding value classes marked
  apart_true (same u v) e = rw (shared_true (share ds u v) (marked_apart ds u v) e)
  apart_true (apart u v) e =
      let both = true_share (share ds u v) (marked_apart ds u v) e in
      simp (both.0, both.1, or-true)
