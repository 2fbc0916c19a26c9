-- A term that is made of a sign and two lots has these.
use Prim.Native.Nat.{ℕ}
use mathlib.Core.Logic.{◌⊎◌, inl, inr}
use mathlib.Core.Path.{◌≡◌, refl}
use Rattle.sheet.specs.Format.{same_sign, apart_sign}
use Rattle.sheet.specs.Conditions.{Term, sign_of, first_lot, second_lot, term_of}

pub record FieldsOf (t : Term) (sign a b : ℕ) : Type 0 where
  pub sign' : sign_of t ≡ sign
  pub first : first_lot t ≡ a
  pub second : second_lot t ≡ b

pub fields_of : (sign a b : ℕ) → (sign ≡ same_sign) ⊎ (sign ≡ apart_sign) → FieldsOf (term_of sign a b) sign a b
fields_of sign a b (inl e) = rw e (record { sign' = refl; first = refl; second = refl })
fields_of sign a b (inr e) = rw e (record { sign' = refl; first = refl; second = refl })
