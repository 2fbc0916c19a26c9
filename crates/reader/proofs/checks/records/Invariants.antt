use Prim.Native.Nat.{ℕ}
use mathlib.Core.Bool.{Bool, not, ◌||◌}
use mathlib.Core.List.{List}
use Rattle.sheet.specs.Format.{lowest_lot, record_count, vacant}
use Rattle.sheet.specs.Checks.{well_formed}
use Rattle.sheet.proofs.Loops.{Counting}
use Rattle.reader.proofs.checks.records.Given as goal

abbrev badly_formed : List ℕ → ℕ → Bool
badly_formed s r = not (vacant s r || well_formed lowest_lot s r)

abbrev pub invariant-loop-r : goal.invariant-loop-r
invariant-loop-r l = Counting 5 (badly_formed l.sheet) (record_count l.sheet) l.r
