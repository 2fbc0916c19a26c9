-- Which terms name a lot.
use Prim.Native.Nat.{ℕ}
use mathlib.Core.Bool.{Bool, true, false, cond, ◌||◌}
use mathlib.Core.Path.{◌≡◌, refl}
use lib.Dec.{eqb}
use Rattle.sheet.specs.Format.{same_sign}
use Rattle.sheet.specs.Conditions.{same, apart, term_of}
use Rattle.reassignment.specs.Reassign.{term_names}

module _ (lot sign a b : ℕ) where
  -- A term names a lot by its fields, whichever its sign.
  pub by_fields : (eqb a lot || eqb b lot) ≡ term_names lot (term_of sign a b)
  by_fields = go (eqb sign same_sign)
    where
      go : (p : Bool) → (eqb a lot || eqb b lot) ≡ term_names lot (cond p (same a b) (apart a b))
      go true = refl
      go false = refl
