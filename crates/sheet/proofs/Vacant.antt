-- A record is vacant where all its fields are zero.
use Prim.Native.Nat.{ℕ, zero, suc, ◌+◌, ◌≤◌, ◌<◌}
use mathlib.Core.Bool.{Bool, true, false, and-eq-true_iff}
use mathlib.Core.List.{List}
use mathlib.Core.Logic.{◌⊎◌, inl, inr}
use mathlib.Core.Path.{◌≡◌, refl, ap, ◌∙◌}
use native.Mathlib.Omega.{arith}
use lib.Dec.{eqb}
use lib.ListN.{get_or}
use borrow.Author.Tests.{eqb-true, eqb-false, eq-eqb}
use Rattle.buffers.specs.Bytes.{number}
use Rattle.sheet.specs.Format.{condition_count, record_place, same_sign, apart_sign, sign_at, spare_at, first_lot_at, second_lot_at, next_at, zero_bytes, vacant}

-- All fields of record r are zero.
pub record Blank (s : List ℕ) (r : ℕ) : Type 0 where
  pub sign : sign_at s r ≡ 0
  pub spare : spare_at s r ≡ 0
  pub first : first_lot_at s r ≡ 0
  pub second : second_lot_at s r ≡ 0
  pub next : next_at s r ≡ 0

-- ---- bytes that are zero

-- Where `count` bytes from p on are zero, each of them is.
pub zero_each : (s : List ℕ) (count p : ℕ) → zero_bytes s count p ≡ true → (i : ℕ) → p ≤ i → i < p + count → get_or s i 0 ≡ 0
unfolding zero_bytes
zero_each s zero p e i low high = absurd (omega arith)
zero_each s (suc count) p e i low high =
    let (here, rest) = (and-eq-true_iff _ _).0 e in
    go (eqb-true _ _ here) (λ l. zero_each s count (suc p) rest i l (omega arith)) (eqb i p) refl
  where
    go : get_or s p 0 ≡ 0 → (suc p ≤ i → get_or s i 0 ≡ 0) → (b : Bool) → eqb i p ≡ b → get_or s i 0 ≡ 0
    go here later true q = ap (λ (j : ℕ). get_or s j 0) (eqb-true i p q) ∙ here
    go here later false q = later (omega (arith, eqb-false i p q))

-- One byte more in front, and one number more.
one_more : (s : List ℕ) (count p q : ℕ) → q ≡ p + 1 → get_or s p 0 ≡ 0 → zero_bytes s count q ≡ true → zero_bytes s (suc count) p ≡ true
unfolding zero_bytes
one_more s count p q e here rest = (and-eq-true_iff _ _).1 (eq-eqb _ _ here, (let next : suc p ≡ q = omega arith in rw next rest))

two_more : (s : List ℕ) (count p q : ℕ) → q ≡ p + 2 → number s p ≡ 0 → zero_bytes s count q ≡ true → zero_bytes s (suc (suc count)) p ≡ true
unfolding number
two_more s count p q e here rest =
    one_more s (suc count) p (p + 1) refl (omega arith) (one_more s count (p + 1) q (omega arith) (omega arith) rest)

-- ---- the fields

module _ (s : List ℕ) (r : ℕ) where
  abbrev at : ℕ
  at = record_place (condition_count s) r

  number_zero : (p : ℕ) → get_or s p 0 ≡ 0 → get_or s (p + 1) 0 ≡ 0 → number s p ≡ 0
  unfolding number
  number_zero p low high = omega arith

  -- A vacant record's are zero;
  pub vacant_blank : vacant s r ≡ true → Blank s r
  unfolding vacant sign_at spare_at first_lot_at second_lot_at next_at
  vacant_blank e =
      let byte : (i : ℕ) → at ≤ i → i < at + 8 → get_or s i 0 ≡ 0 = zero_each s 8 at e in
      record {
        sign = byte at (omega arith) (omega arith);
        spare = byte (at + 1) (omega arith) (omega arith);
        first = number_zero (at + 2) (byte (at + 2) (omega arith) (omega arith)) (byte (at + 2 + 1) (omega arith) (omega arith));
        second = number_zero (at + 4) (byte (at + 4) (omega arith) (omega arith)) (byte (at + 4 + 1) (omega arith) (omega arith));
        next = number_zero (at + 6) (byte (at + 6) (omega arith) (omega arith)) (byte (at + 6 + 1) (omega arith) (omega arith));
      }

  -- and where they are, it is.
  pub blank_vacant : Blank s r → vacant s r ≡ true
  unfolding vacant sign_at spare_at first_lot_at second_lot_at next_at zero_bytes
  blank_vacant b =
      one_more s 7 at (at + 1) refl b.sign
      (one_more s 6 (at + 1) (at + 2) (omega arith) b.spare
      (two_more s 4 (at + 2) (at + 4) (omega arith) b.first
      (two_more s 2 (at + 4) (at + 6) (omega arith) b.second
      (two_more s 0 (at + 6) (at + 8) (omega arith) b.next refl))))

  -- A record with a field that isn't zero is not vacant.
  pub not-vacant : (Blank s r → ⊥) → vacant s r ≡ false
  not-vacant other = go (vacant s r) refl
    where
      go : (b : Bool) → vacant s r ≡ b → vacant s r ≡ false
      go true e = absurd (other (vacant_blank e))
      go false e = e

  -- A term's record has a sign.
  pub sign_filled : (sign_at s r ≡ same_sign) ⊎ (sign_at s r ≡ apart_sign) → vacant s r ≡ false
  sign_filled (inl e) = not-vacant (λ b. omega (arith, b.sign))
  sign_filled (inr e) = not-vacant (λ b. omega (arith, b.sign))
