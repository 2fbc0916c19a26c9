-- One test that nearly always tells that two classes are not those of a pair: another exclusive or.
use Prim.Native.Nat.{ℕ}
use mathlib.Core.Bool.{Bool, true, false, ◌&&◌, ◌||◌}
use mathlib.Core.Path.{◌≡◌, refl, ap₂, ◌∙◌}
use borrow.Author.Tests.{eqb-true}
use lib.Bits.{bit_xor, xor_comm}
use lib.Dec.{eqb}

pub neither_way : (x y u v : ℕ) → (bit_xor u v ≡ bit_xor x y → ⊥) → (eqb u x && eqb v y || eqb u y && eqb v x) ≡ false
neither_way x y u v other = go (eqb u x) (eqb v y) (eqb u y) (eqb v x) refl refl refl refl
  where
    straight : eqb u x ≡ true → eqb v y ≡ true → bit_xor u v ≡ bit_xor x y
    straight p q = ap₂ bit_xor (eqb-true u x p) (eqb-true v y q)

    crossed : eqb u y ≡ true → eqb v x ≡ true → bit_xor u v ≡ bit_xor x y
    crossed p q = ap₂ bit_xor (eqb-true u y p) (eqb-true v x q) ∙ xor_comm y x

    go : (p q r t : Bool) → eqb u x ≡ p → eqb v y ≡ q → eqb u y ≡ r → eqb v x ≡ t → (p && q || r && t) ≡ false
    go true true r t ep eq er et = absurd (other (straight ep eq))
    go true false true true ep eq er et = absurd (other (crossed er et))
    go false q true true ep eq er et = absurd (other (crossed er et))
    go true false true false ep eq er et = refl
    go true false false t ep eq er et = refl
    go false q true false ep eq er et = refl
    go false q false t ep eq er et = refl
