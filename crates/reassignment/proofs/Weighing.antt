-- "weighs only the conditions naming that lot": the others keep their truth, so that what is taken away and added for these is right for all.
use Prim.Native.Nat.{ℕ, ◌+◌, ◌-◌, ◌≤◌}
use mathlib.Core.Bool.{Bool, true, false, cond}
use mathlib.Core.List.{List, [], ◌∷◌}
use mathlib.Core.Logic.{◌≢◌}
use mathlib.Core.Path.{◌≡◌, refl}
use native.Mathlib.Omega.{arith}
use borrow.Author.Tests.{eqb-false}
use lib.Dec.{eqb}
use Rattle.buffers.specs.Lists.{All}
use Rattle.sheet.specs.Format.{condition_count}
use Rattle.sheet.specs.Conditions.{Term, BothLots, first_lot, second_lot, conditions}
use Rattle.equality.specs.Meaning.{meets_condition, any_term}
use Rattle.equality.proofs.Agree.{condition_agrees}
use Rattle.equality.proofs.Tests.{either_false}
use Rattle.reassignment.specs.Count.{unmet_one, unmet_count}
use Rattle.reassignment.specs.Reassign.{term_names, names, naming}
use Rattle.reassignment.proofs.Counting.{sheet_most}
use Rattle.reassignment.proofs.Summing.{unmet_adds, naming_adds}

-- ---- the conditions that name a lot, among all

-- No more of them are unmet than of all,
pub naming_most : (f : ℕ → ℕ) (lot : ℕ) (tss : List (List Term)) → unmet_count f (naming lot tss) ≤ unmet_count f tss
naming_most f lot [] = omega (arith, (naming_adds f lot).end)
naming_most f lot (ts ∷ tss) =
    omega (arith, (naming_adds f lot).step ts tss, (unmet_adds f).step ts tss, here (names lot ts), naming_most f lot tss)
  where
    here : (p : Bool) → cond p (unmet_one f ts) 0 ≤ unmet_one f ts
    here true = omega arith
    here false = omega arith

-- and so at most m of a sheet's.
pub named_most : (s : List ℕ) (f : ℕ → ℕ) (lot : ℕ) → unmet_count f (naming lot (conditions s)) ≤ condition_count s
named_most s f lot = omega (arith, naming_most f lot (conditions s), sheet_most s f)

-- ---- the others

-- The lots of a condition that doesn't name a lot are others.
others : (lot : ℕ) (ts : List Term) → names lot ts ≡ false → All (BothLots (λ x. x ≢ lot)) ts
unfolding any_term
others lot [] e = tt
others lot (t ∷ ts) e =
    let (here, rest) = either_false (term_names lot t) (names lot ts) e in
    let (first, second) = either_false (eqb (first_lot t) lot) (eqb (second_lot t) lot) here in
    ((eqb-false (first_lot t) lot first, eqb-false (second_lot t) lot second), others lot ts rest)

-- Two assignments that agree on all lots but one.
module _ (lot : ℕ) (f g : ℕ → ℕ) (agree : (x : ℕ) → x ≢ lot → f x ≡ g x) where
  -- A condition that doesn't name that one keeps its truth,
  pub condition_stays : (ts : List Term) → names lot ts ≡ false → meets_condition f ts ≡ meets_condition g ts
  condition_stays ts e = condition_agrees (λ x. x ≢ lot) f g agree ts (others lot ts e)

  -- so what the one count has beside the conditions that name it, the other has too.
  pub others-stay : (tss : List (List Term)) → unmet_count f tss + unmet_count g (naming lot tss) ≡ unmet_count g tss + unmet_count f (naming lot tss)
  others-stay [] = omega (arith, (naming_adds f lot).end, (naming_adds g lot).end, (unmet_adds f).end, (unmet_adds g).end)
  others-stay (ts ∷ tss) =
      omega (
        arith,
        (unmet_adds f).step ts tss,
        (unmet_adds g).step ts tss,
        (naming_adds f lot).step ts tss,
        (naming_adds g lot).step ts tss,
        here (names lot ts) refl,
        others-stay tss,
      )
    where
      here : (p : Bool) → names lot ts ≡ p → unmet_one f ts + cond p (unmet_one g ts) 0 ≡ unmet_one g ts + cond p (unmet_one f ts) 0
      here true e = omega arith
      here false e = rw (condition_stays ts e)

  module _ (tss : List (List Term)) (count : ℕ) where
    -- Any count that is not below the unmet ones named stays off by as much as it was;
    pub off_by_as_much : unmet_count f (naming lot tss) ≤ count
        → count - unmet_count f (naming lot tss) + unmet_count g (naming lot tss) + unmet_count f tss ≡ count + unmet_count g tss
    off_by_as_much low = omega (arith, others-stay tss)

    -- a right one stays right.
    pub new_right : count ≡ unmet_count f tss → count - unmet_count f (naming lot tss) + unmet_count g (naming lot tss) ≡ unmet_count g tss
    new_right e = omega (arith, off_by_as_much (omega (arith, naming_most f lot tss)))
