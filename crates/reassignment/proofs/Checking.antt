-- The checks of a reassignment, one after the other: those of a call with a grouping, then 21, then 22.
use Prim.Native.Nat.{ℕ, ◌≤◌}
use mathlib.Core.Bool.{true, false}
use mathlib.Core.List.{List, [], ◌∷◌}
use mathlib.Core.Path.{◌≡◌, sym, ap, subst, ◌∙◌}
use native.Mathlib.Omega.{arith}
use borrow.Author.Tests.{ltb-false, le-ltb, ne_eqb}
use lib.Dec.{ltb}
use Rattle.sheet.specs.Verdicts.{Verdict, Passes, Refuses}
use Rattle.sheet.specs.Format.{lot_count, condition_count}
use Rattle.sheet.specs.Checks.{or_else, first_refusal, sheet_verdict}
use Rattle.sheet.proofs.Verdicts.{or_else_end, or_else_assoc, or_else-passes, refuses_if-passes}
use Rattle.sheet.proofs.Further.{further}
use Rattle.sheet.proofs.Numbered.{Numbered, either, test}
use Rattle.equality.specs.Evaluator.{check8, grouping_verdict, grouping_verdict_with}
use Rattle.equality.proofs.Checked.{grouping_numbered}
use Rattle.equality.proofs.Tests.{either_false, from_one}
use Rattle.reassignment.specs.Reassign.{ill_lot, ill_count, unmet_naming, check21, check22, reassign_verdict}

-- ---- 21 and 22 by numbers

-- A lot that 21 admits is one of 1 to n,
pub lot-within : (n lot : ℕ) → ill_lot n lot ≡ false → (1 ≤ lot) × (lot ≤ n)
lot-within n lot e = from_one n lot e

-- and it admits each of these.
pub within-lot : (n lot : ℕ) → 1 ≤ lot → lot ≤ n → ill_lot n lot ≡ false
within-lot n lot low high = rw (ne_eqb lot 0 (λ e. omega arith), le-ltb n lot high)

-- A count that 22 admits is at most m and not below the unmet ones named,
pub count-within : (m before count : ℕ) → ill_count m before count ≡ false → (count ≤ m) × (before ≤ count)
count-within m before count e =
    let (high, low) = either_false (ltb m count) (ltb count before) e in
    omega (arith, ltb-false m count high, ltb-false count before low)

-- and it admits each such.
pub within_count : (m before count : ℕ) → count ≤ m → before ≤ count → ill_count m before count ≡ false
within_count m before count high low = rw (le-ltb m count high, le-ltb count before low)

-- ---- the verdict

module _ (s grouping : List ℕ) (count lot : ℕ) where
  -- 22 refuses a count that can't be right,
  pub count-refused : ill_count (condition_count s) (unmet_naming s grouping lot) count ≡ true → check22 s grouping count lot ≡ Refuses 22 count
  unfolding check22
  count-refused e = rw e

  -- and no other.
  pub count-passed : ill_count (condition_count s) (unmet_naming s grouping lot) count ≡ false → check22 s grouping count lot ≡ Passes
  unfolding check22
  count-passed e = rw e

  pub verdict_parts : reassign_verdict s grouping count lot ≡ or_else (grouping_verdict s grouping) (or_else (check21 s lot) (check22 s grouping count lot))
  unfolding reassign_verdict grouping_verdict_with first_refusal
  verdict_parts =
      further s (check8 s grouping ∷ check21 s lot ∷ check22 s grouping count lot ∷ [])
      ∙ ap (λ (v : Verdict). or_else (sheet_verdict s) (or_else (check8 s grouping) (or_else (check21 s lot) v))) (or_else_end (check22 s grouping count lot))
      ∙ sym (or_else_assoc (sheet_verdict s) (check8 s grouping) (or_else (check21 s lot) (check22 s grouping count lot)))
      ∙ ap (λ (v : Verdict). or_else (or_else (sheet_verdict s) v) (or_else (check21 s lot) (check22 s grouping count lot))) (sym (or_else_end (check8 s grouping)))
      ∙ ap (λ (v : Verdict). or_else v (or_else (check21 s lot) (check22 s grouping count lot))) (sym (further s (check8 s grouping ∷ [])))

  -- What refuses a call with a grouping refuses this one;
  pub grouping-refused : {check place : ℕ} → grouping_verdict s grouping ≡ Refuses check place → reassign_verdict s grouping count lot ≡ Refuses check place
  grouping-refused e = verdict_parts ∙ rw e

  module _ (long : grouping_verdict s grouping ≡ Passes) where
    -- then 21 does,
    pub lot-refused : ill_lot (lot_count s) lot ≡ true → reassign_verdict s grouping count lot ≡ Refuses 21 lot
    unfolding check21
    lot-refused e = verdict_parts ∙ rw (long, e)

    -- or else it is 22 that decides.
    pub lot-passed : ill_lot (lot_count s) lot ≡ false → reassign_verdict s grouping count lot ≡ check22 s grouping count lot
    unfolding check21
    lot-passed e = verdict_parts ∙ rw (long, e)

  -- Where all pass, each does.
  pub all_passed : reassign_verdict s grouping count lot ≡ Passes
      → (grouping_verdict s grouping ≡ Passes)
      × (ill_lot (lot_count s) lot ≡ false)
      × (ill_count (condition_count s) (unmet_naming s grouping lot) count ≡ false)
  unfolding check21 check22
  all_passed e =
      let (long, rest) = or_else-passes (grouping_verdict s grouping) _ (sym verdict_parts ∙ e) in
      let (lot_in, count-in) = or_else-passes (check21 s lot) (check22 s grouping count lot) rest in
      (long, refuses_if-passes _ 21 lot lot_in, refuses_if-passes _ 22 count count-in)

  -- A refusal's number is at least 1 and not 9.
  pub reassign_numbered : Numbered (reassign_verdict s grouping count lot)
  unfolding check21 check22
  reassign_numbered =
      subst Numbered (sym verdict_parts)
      (either (grouping_verdict s grouping) _ (grouping_numbered s grouping)
      (either (check21 s lot) (check22 s grouping count lot) (test (ill_lot (lot_count s) lot) 21 lot (omega arith, λ e. omega arith))
      (test (ill_count (condition_count s) (unmet_naming s grouping lot) count) 22 count (omega arith, λ e. omega arith))))
