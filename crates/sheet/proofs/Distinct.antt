-- Distinct numbers from 1 to k: there are at most k of them.
use Prim.Native.Nat.{ℕ, ◌+◌, ◌≤◌}
use mathlib.Core.Bool.{Bool, true, false, ◌||◌, false≢true}
use mathlib.Core.List.{List, [], ◌∷◌}
use mathlib.Core.Path.{◌≡◌, refl}
use native.Mathlib.Omega.{arith}
use lib.Dec.{eqb}
use lib.ListN.{length}
use borrow.Author.Tests.{eqb-true}
use Rattle.sheet.specs.Checks.{member}
use Rattle.sheet.specs.Conditions.{count_up}
use Rattle.sheet.proofs.Times.{bit, times, member_times, times_member, absent_times, no_longer}
use Rattle.sheet.proofs.Ranges.{length-count_up, range_times}

-- The numbers xs are distinct, and all of them from 1 to k.
pub record Distinct (k : ℕ) (xs : List ℕ) : Type 0 where
  pub once : (x : ℕ) → times x xs ≤ 1
  pub range : (x : ℕ) → member x xs ≡ true → (1 ≤ x) × (x ≤ k)

-- None.
pub distinct_nil : (k : ℕ) → Distinct k []
unfolding times member
distinct_nil k = record { once = λ x. omega arith; range = λ x e. absurd (false≢true e) }

-- One number more.
pub distinct_cons : {k : ℕ} {xs : List ℕ} (x : ℕ) → 1 ≤ x → x ≤ k → member x xs ≡ false → Distinct k xs → Distinct k (x ∷ xs)
unfolding times member
distinct_cons {k} {xs} x low high new d = record { once = λ z. once z (eqb z x) refl; range = λ z e. range z (eqb z x) refl e }
  where
    once : (z : ℕ) (b : Bool) → eqb z x ≡ b → bit b + times z xs ≤ 1
    once z true q = rw (eqb-true z x q) (omega (arith, absent_times x xs new))
    once z false q = omega (arith, d.once z)

    range : (z : ℕ) (b : Bool) → eqb z x ≡ b → (b || member z xs) ≡ true → (1 ≤ z) × (z ≤ k)
    range z true q e = let same : z ≡ x = eqb-true z x q in omega arith
    range z false q e = d.range z e

-- Some of the numbers.
pub distinct_part : {k : ℕ} {xs ys : List ℕ} → ((x : ℕ) → times x xs ≤ times x ys) → Distinct k ys → Distinct k xs
distinct_part {xs} {ys} h d =
    record { once = λ x. omega (arith, h x, d.once x); range = λ x e. d.range x (times_member x ys (omega (arith, h x, member_times x xs e))) }

-- Distinct numbers from 1 to k are at most k.
pub distinct_length : {k : ℕ} {xs : List ℕ} → Distinct k xs → length xs ≤ k
distinct_length {k} {xs} d = rw (length-count_up k 1) at (no_longer xs (count_up k 1) (λ x. go x (member x xs) refl))
  where
    go : (x : ℕ) (b : Bool) → member x xs ≡ b → times x xs ≤ times x (count_up k 1)
    go x true e = let (low, high) = d.range x e in omega (arith, d.once x, range_times x k 1 low (omega arith))
    go x false e = omega (arith, absent_times x xs e)
