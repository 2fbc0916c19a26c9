-- What two tests say together, and what a test of a range says.
use Prim.Native.Nat.{ℕ, ◌≤◌}
use mathlib.Core.Bool.{Bool, true, false, ◌&&◌, ◌||◌, false≢true}
use mathlib.Core.Path.{◌≡◌, refl, sym}
use native.Mathlib.Omega.{arith}
use borrow.Author.Tests.{eqb-false, ltb-false}
use lib.Dec.{eqb, ltb}

pub or_cases : {C : Type 0} (p q : Bool) → (p || q) ≡ true → (p ≡ true → C) → (q ≡ true → C) → C
or_cases true q e yes' no' = yes' refl
or_cases false q e yes' no' = no' e

-- Neither of two tests.
pub either_false : (p q : Bool) → (p || q) ≡ false → (p ≡ false) × (q ≡ false)
either_false true q e = absurd (false≢true (sym e))
either_false false q e = (refl, e)

pub and_true_both : (p q : Bool) → (p && q) ≡ true → (p ≡ true) × (q ≡ true)
and_true_both true q e = (refl, e)
and_true_both false q e = absurd (false≢true e)

-- What is neither 0 nor above the most is a number from 1 to the most.
pub from_one : (most x : ℕ) → (eqb x 0 || ltb most x) ≡ false → (1 ≤ x) × (x ≤ most)
from_one most x e =
    let both = either_false (eqb x 0) (ltb most x) e in
    omega (arith, eqb-false x 0 both.0, ltb-false most x both.1)
