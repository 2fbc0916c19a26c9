-- A lot's entry is the least lot of its class (theorem 1, classes).
use Prim.Native.Nat.{ℕ, ◌≤◌, min}
use mathlib.Core.Bool.{Bool, true, false, cond, ◌||◌, or-true}
use mathlib.Core.Logic.{◌⊎◌, inl, inr, ⊎_elim}
use mathlib.Core.List.{[], ◌∷◌}
use mathlib.Core.Path.{◌≡◌, refl, sym, ap, ◌∙◌}
use native.Mathlib.Omega.{arith}
use borrow.Author.Tests.{eqb-true, eq-eqb, leb-true, leb-false}
use lib.Dec.{eqb, leb}
use Rattle.sheet.specs.Format.{most_lots}
use Rattle.sheet.specs.Conditions.{same, apart}
use Rattle.equality.specs.Node.{Decisions, smallest_lot}
use Rattle.equality.proofs.Classes.{joined_to, no_class, past_class, same_class, apart_class, min_either}

joined_least : (x y z : ℕ) → joined_to x y z ≤ z
joined_least x y z = go (eqb z x) (eqb z y) refl refl
  where
    go : (p q : Bool) → eqb z x ≡ p → eqb z y ≡ q → cond (p || q) (min x y) z ≤ z
    go true q ex ey = omega (arith, eqb-true z x ex)
    go false true ex ey = omega (arith, eqb-true z y ey)
    go false false ex ey = omega arith

-- It is at most the lot,
no_least : (lot : ℕ) → smallest_lot [] lot ≤ lot
no_least lot = go (leb lot most_lots) refl
  where
    go : (p : Bool) → leb lot most_lots ≡ p → smallest_lot [] lot ≤ lot
    go true e = omega (arith, no_class lot (leb-true lot most_lots e))
    go false e = omega (arith, past_class lot (leb-false lot most_lots e))

pub least : (ds : Decisions) (lot : ℕ) → smallest_lot ds lot ≤ lot
least [] lot = no_least lot
least (same a b ∷ ds) lot = omega (arith, same_class ds a b lot, joined_least (smallest_lot ds a) (smallest_lot ds b) (smallest_lot ds lot), least ds lot)
least (apart a b ∷ ds) lot = omega (arith, apart_class ds a b lot, least ds lot)

-- so the class of lot 0 is known by 0, under all decisions;
pub zero_class : (ds : Decisions) → smallest_lot ds 0 ≡ 0
zero_class ds = omega (arith, least ds 0)

-- and it is in the class.
joined_either : (x y z : ℕ) → (joined_to x y z ≡ z) ⊎ ((joined_to x y z ≡ x) ⊎ (joined_to x y z ≡ y))
joined_either x y z = go (eqb z x || eqb z y)
  where
    go : (p : Bool) → (cond p (min x y) z ≡ z) ⊎ ((cond p (min x y) z ≡ x) ⊎ (cond p (min x y) z ≡ y))
    go true = inr (min_either x y)
    go false = inl refl

joined_twice : (x y z : ℕ) → joined_to x y (joined_to x y z) ≡ joined_to x y z
joined_twice x y z = go (eqb z x || eqb z y) refl
  where
    smaller : joined_to x y (min x y) ≡ min x y
    smaller = ⊎_elim (λ e. simp (eq-eqb (min x y) x e)) (λ e. simp (eq-eqb (min x y) y e, or-true)) (min_either x y)

    go : (p : Bool) → (eqb z x || eqb z y) ≡ p → joined_to x y (cond p (min x y) z) ≡ cond p (min x y) z
    go true e = smaller
    go false e = simp e

no_least_again : (lot : ℕ) → smallest_lot [] (smallest_lot [] lot) ≡ smallest_lot [] lot
no_least_again lot = go (leb lot most_lots) refl
  where
    go : (p : Bool) → leb lot most_lots ≡ p → smallest_lot [] (smallest_lot [] lot) ≡ smallest_lot [] lot
    go true e = ap (smallest_lot []) (no_class lot (leb-true lot most_lots e))
    go false e = let out = past_class lot (leb-false lot most_lots e) in ap (smallest_lot []) out ∙ no_class 0 (omega arith) ∙ sym out

pub least-again : (ds : Decisions) (lot : ℕ) → smallest_lot ds (smallest_lot ds lot) ≡ smallest_lot ds lot
least-again [] lot = no_least_again lot
least-again (apart a b ∷ ds) lot =
    apart_class ds a b (smallest_lot (apart a b ∷ ds) lot)
    ∙ ap (smallest_lot ds) (apart_class ds a b lot)
    ∙ least-again ds lot
    ∙ sym (apart_class ds a b lot)
least-again (same a b ∷ ds) lot =
    let x = smallest_lot ds a in
    let y = smallest_lot ds b in
    let z = smallest_lot ds lot in
    let joined = same_class ds a b lot in
    let fixed : smallest_lot ds (joined_to x y z) ≡ joined_to x y z = stays (least-again ds) (joined_to x y z) (joined_either x y z) in
    same_class ds a b (smallest_lot (same a b ∷ ds) lot)
    ∙ ap (λ (e : ℕ). joined_to x y (smallest_lot ds e)) joined
    ∙ ap (joined_to x y) fixed
    ∙ joined_twice x y z
    ∙ sym joined
  where
    stays : ((l : ℕ) → smallest_lot ds (smallest_lot ds l) ≡ smallest_lot ds l)
        → (e : ℕ) → (e ≡ smallest_lot ds lot) ⊎ ((e ≡ smallest_lot ds a) ⊎ (e ≡ smallest_lot ds b)) → smallest_lot ds e ≡ e
    stays again e (inl q) = rw q (again lot)
    stays again e (inr (inl q)) = rw q (again a)
    stays again e (inr (inr q)) = rw q (again b)
