-- The checks that a call with a grouping can fail before anything is tried: 1 to 7 and 17 on the sheet, then 8.
use Prim.Native.Nat.{ℕ, ◌≤◌, ◌<◌}
use mathlib.Core.List.{List}
use mathlib.Core.Path.{◌≡◌}
use native.Mathlib.Omega.{arith}
use lib.ListN.{length}
use Rattle.sheet.specs.Verdicts.{Passes, Refuses}
use Rattle.sheet.specs.Format.{lot_count}
use Rattle.sheet.specs.Checks.{Accepted, sheet_verdict}
use Rattle.sheet.proofs.Lengths.{sheet-first, too_short, long_enough, then_numbered}
use Rattle.sheet.proofs.Numbered.{Numbered}
use Rattle.equality.specs.Evaluator.{check8, grouping_verdict, grouping_verdict_with}

module _ (s grouping : List ℕ) where
  -- A sheet that is refused,
  pub sheet-refused : (check place : ℕ) → sheet_verdict s ≡ Refuses check place → grouping_verdict s grouping ≡ Refuses check place
  unfolding grouping_verdict_with check8
  sheet-refused = sheet-first s grouping 8 (lot_count s)

  -- a grouping that is too short,
  pub grouping-short : Accepted s → length grouping < lot_count s → grouping_verdict s grouping ≡ Refuses 8 (lot_count s)
  unfolding grouping_verdict_with check8
  grouping-short = too_short s grouping 8 (lot_count s)

  -- or none of the eight.
  pub all_pass : Accepted s → lot_count s ≤ length grouping → grouping_verdict s grouping ≡ Passes
  unfolding grouping_verdict_with check8
  all_pass = long_enough s grouping 8 (lot_count s)

  -- A refusal's number is at least 1 and not 9.
  pub grouping_numbered : Numbered (grouping_verdict s grouping)
  unfolding grouping_verdict_with check8
  grouping_numbered = then_numbered s grouping 8 (lot_count s) (omega arith, λ e. omega arith)
