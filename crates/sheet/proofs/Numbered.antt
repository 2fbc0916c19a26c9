-- The numbers of the checks: every check but that of a full store has a number of at least 1 that is not 9. So 0 tells an answer, and 9 a full store.
use Prim.Native.Nat.{ℕ, zero, suc, ◌≤◌}
use mathlib.Core.Bool.{Bool, true, false, not, ◌||◌}
use mathlib.Core.List.{List}
use mathlib.Core.Logic.{◌≢◌}
use mathlib.Core.Path.{◌≡◌}
use native.Mathlib.Omega.{arith}
use lib.Dec.{ltb, eqb}
use lib.ListN.{length}
use Rattle.sheet.specs.Verdicts.{Verdict, Passes, Refuses}
use Rattle.sheet.specs.Format.{lowest_lot, most_lots, most_conditions, most_records, header_length, lot_count, condition_count, record_count, sheet_length, head_at, vacant}
use Rattle.sheet.specs.Checks.{well_formed, member, reached_by, or_else, first_refusal, refuses_if, lowest_refusal, check1, check2, check3, check4, check5, check17_and6, check7, Walk, reached, twice, into_vacant, chains_verdict, walked, sheet_checks_with, sheet_verdict, sheet_verdict_with}

-- A number that such a check has.
abbrev pub Number : ℕ → Type 0
Number check = (1 ≤ check) × (check ≢ 9)

-- A verdict that refuses does so by such a check.
abbrev pub Numbered : Verdict → Type 0
Numbered Passes = Unit {0}
Numbered (Refuses check place) = Number check

pub refusal_number : {v : Verdict} {check place : ℕ} → Numbered v → v ≡ Refuses check place → Number check
refusal_number n e = rw e at n

-- One after another, by a test, and at the lowest place that fails.
pub either : (u v : Verdict) → Numbered u → Numbered v → Numbered (or_else u v)
either Passes v first later = later
either (Refuses check place) v first later = first

pub test : (b : Bool) (check place : ℕ) → Number check → Numbered (refuses_if b check place)
test true check place n = n
test false check place n = tt

lowest : (check : ℕ) → Number check → (fails : ℕ → Bool) (count from : ℕ) → Numbered (lowest_refusal check fails count from)
unfolding lowest_refusal
lowest check n fails zero from = tt
lowest check n fails (suc count) from =
    either (refuses_if (fails from) check from) (lowest_refusal check fails count (suc from)) (test (fails from) check from n) (lowest check n fails count (suc from))

chains : (w : Walk) → Numbered (chains_verdict w)
chains (reached seen) = tt
chains (twice r) = (omega arith, λ e. omega arith)
chains (into_vacant r) = (omega arith, λ e. omega arith)

-- ---- the sheet's checks

module _ (s : List ℕ) where
  one : Numbered (check1 s)
  unfolding check1
  one = test (ltb (length s) header_length) 1 0 (omega arith, λ e. omega arith)

  two : Numbered (check2 s)
  unfolding check2
  two =
      either (refuses_if (ltb most_lots (lot_count s)) 2 1) _ (test (ltb most_lots (lot_count s)) 2 1 (omega arith, λ e. omega arith))
      (either (refuses_if (ltb most_conditions (condition_count s)) 2 2) _ (test (ltb most_conditions (condition_count s)) 2 2 (omega arith, λ e. omega arith))
      (test (ltb most_records (record_count s)) 2 3 (omega arith, λ e. omega arith)))

  three : Numbered (check3 s)
  unfolding check3
  three = test (not (eqb (length s) (sheet_length (condition_count s) (record_count s)))) 3 0 (omega arith, λ e. omega arith)

  four : Numbered (check4 s)
  unfolding check4
  four = lowest 4 (omega arith, λ e. omega arith) (λ c. ltb (record_count s) (head_at s c)) (condition_count s) 1

  five : Numbered (check5 lowest_lot s)
  unfolding check5
  five = lowest 5 (omega arith, λ e. omega arith) (λ r. not (vacant s r || well_formed lowest_lot s r)) (record_count s) 1

  six : Numbered (check17_and6 s)
  unfolding check17_and6
  six = chains (walked s)

  seven : Numbered (check7 s)
  unfolding check7
  seven = lowest 7 (omega arith, λ e. omega arith) (λ r. not (vacant s r || member r (reached_by (walked s)))) (record_count s) 1

  pub sheet_numbered : Numbered (sheet_verdict s)
  unfolding sheet_verdict_with sheet_checks_with first_refusal
  sheet_numbered =
      either (check1 s) _ one
      (either (check2 s) _ two
      (either (check3 s) _ three
      (either (check4 s) _ four
      (either (check5 lowest_lot s) _ five
      (either (check17_and6 s) _ six
      (either (check7 s) Passes seven tt))))))
