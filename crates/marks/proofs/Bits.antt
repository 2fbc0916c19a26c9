-- One bit of a byte that has another set.
use Prim.Native.Nat.{ℕ, zero, suc, ◌*◌, ◌/◌, ◌%◌, ◌^◌, ◌<◌}
use mathlib.Core.Bool.{◌||◌}
use mathlib.Core.Path.{◌≡◌, sym, ap, ◌∙◌}
use native.Mathlib.Nat.{pow-suc, one-mul}
use native.Mathlib.Numerals.{one-add}
use native.Mathlib.Omega.{arith}
use borrow.Author.Tests.{eq-eqb}
use lib.Bits.{bit_or, or_step, or_shr, or_zero_r}
use lib.Dec.{eqb, eqb-zero-suc, eqb-suc-zero, eqb-suc-suc}
use lib.Pow.{shl_exact, shr-shr}
use Rattle.marks.specs.Marks.{bit_of}

-- A one shifted within a byte.
pub one_bit : (k : ℕ) → k < 8 → (1 * 2 ^ k) % 256 ≡ 2 ^ k
one_bit k h = shl_exact {a = 1} 1 k 8 (omega arith) (omega arith) ∙ one-mul (2 ^ k)

-- A higher bit is a bit of the half.
bit_half : (n k : ℕ) → bit_of n (suc k) ≡ bit_of (n / 2) k
bit_half n k = ap (λ (q : ℕ). eqb (q % 2) 1) (ap (λ (j : ℕ). n / 2 ^ j) (sym (one-add k)) ∙ sym (shr-shr n 1 k))

power_half : (j : ℕ) → 2 ^ suc j / 2 ≡ 2 ^ j
power_half j = omega (arith, pow-suc 2 j)

-- The lowest bit, with the lowest set, and with a higher one set.
lowest_set : (b : ℕ) → bit_or b 1 % 2 ≡ 1
lowest_set b = omega (arith, or_step b 1)

lowest_left : (b j : ℕ) → bit_or b (2 ^ suc j) % 2 ≡ b % 2
lowest_left b j = omega (arith, or_step b (2 ^ suc j), pow-suc 2 j)

-- A bit is set with bit j where it is that bit, or was set before.
pub or_bit : (b j k : ℕ) → bit_of (bit_or b (2 ^ j)) k ≡ (eqb j k || bit_of b k)
or_bit b zero zero = eq-eqb (bit_or b 1 / 1 % 2) 1 (omega (arith, lowest_set b))
or_bit b zero (suc k) =
    bit_half (bit_or b 1) k
    ∙ ap (λ (n : ℕ). bit_of n k) (or_shr b 1 1 ∙ or_zero_r (b / 2))
    ∙ sym (rw (eqb-zero-suc k) (bit_half b k))
or_bit b (suc j) zero =
    let lowest : bit_or b (2 ^ suc j) / 1 % 2 ≡ b / 1 % 2 = omega (arith, lowest_left b j) in
    rw (eqb-suc-zero j) (ap (λ (n : ℕ). eqb n 1) lowest)
or_bit b (suc j) (suc k) =
    bit_half (bit_or b (2 ^ suc j)) k
    ∙ ap (λ (n : ℕ). bit_of n k) (or_shr b (2 ^ suc j) 1 ∙ ap (bit_or (b / 2)) (power_half j))
    ∙ or_bit (b / 2) j k
    ∙ sym (rw (eqb-suc-suc j k, bit_half b k))
