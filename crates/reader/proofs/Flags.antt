-- How many records are not flagged, and one flag more.
use Prim.Native.Nat.{ℕ, zero, suc, ◌+◌, ◌-◌, ◌≤◌, ◌<◌}
use mathlib.Core.Bool.{Bool, true, false, not, ◌||◌}
use mathlib.Core.List.{List, [], ◌∷◌}
use mathlib.Core.Path.{◌≡◌, refl}
use native.Mathlib.Omega.{arith}
use lib.Dec.{eqb}
use lib.ListN.{length, get_or, set, take, replicate, length-set, length-replicate, length-take, get_or-replicate}
use lib.Seq.{get_or-set_same, get_or-set_other, get_or-take}
use borrow.Author.Tests.{eq-eqb, ne_eqb, eqb-true, eqb-false}
use Rattle.sheet.specs.Checks.{member}
use Rattle.sheet.specs.Inner.{Flags, is_flagged}
use Rattle.sheet.proofs.Times.{bit, bit_le}

-- ---- how many records are not flagged

unfoldable pub unflagged : List ℕ → ℕ
unflagged [] = 0
unflagged (x ∷ l) = bit (not (eqb x 1)) + unflagged l

-- At most as many as there are flags;
pub unflagged_le : (l : List ℕ) → unflagged l ≤ length l
unfolding unflagged
unflagged_le [] = omega arith
unflagged_le (x ∷ l) = omega (arith, bit_le (not (eqb x 1)), unflagged_le l)

-- fewer, once another is flagged.
pub unflagged_falls : (l : List ℕ) (i : ℕ) → i < length l → (get_or l i 0 ≡ 1 → ⊥) → unflagged (set l i 1) < unflagged l
unfolding unflagged
unflagged_falls [] i h f = absurd (omega arith)
unflagged_falls (x ∷ l) zero h f = rw (ne_eqb _ _ f) (omega arith)
unflagged_falls (x ∷ l) (suc i) h f = omega (arith, unflagged_falls l i (omega arith) f)

-- ---- one more flag

-- Record r, which is flagged now, is seen now.
pub flag : {flags seen : List ℕ} {r : ℕ} → 1 ≤ r → r ≤ length flags → Flags flags seen → Flags (set flags (r - 1) 1) (r ∷ seen)
unfolding member
flag {flags} {seen} {r} least most m = record { stand = λ q low high. go q low (rw length-set at high) (eqb q r) refl }
  where
    go : (q : ℕ) → 1 ≤ q → q ≤ length flags → (b : Bool) → eqb q r ≡ b
        → is_flagged (set flags (r - 1) 1) q ≡ (eqb q r || member q seen)
    go q low high true e =
        rw (e, eqb-true q r e) (eq-eqb _ _ (get_or-set_same flags (r - 1) 1 0 (omega arith)))
    go q low high false e =
        rw (e, get_or-set_other flags (r - 1) (q - 1) 1 0 (λ z. eqb-false q r e (omega arith))) (m.stand q low high)

-- ---- no flag yet

-- The first k of n zeros.
abbrev pub zeros : ℕ → ℕ → List ℕ
zeros n k = take k (replicate n 0)

pub zeros_length : (n k : ℕ) → k ≤ n → length (zeros n k) ≡ k
zeros_length n k h = simp (length-take, length-replicate) (omega arith)

pub none_flagged : (n k : ℕ) → k ≤ n → Flags (zeros n k) []
unfolding member
none_flagged n k h =
    record {
      stand = λ r low high.
          let within : r ≤ k = rw (zeros_length n k h) at high in
          rw (get_or-take {A = ℕ} k (replicate n 0) (r - 1) 0 (omega arith), get_or-replicate {A = ℕ} n (r - 1) 0 0 (omega arith));
    }
