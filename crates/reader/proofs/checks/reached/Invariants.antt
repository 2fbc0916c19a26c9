use Prim.Native.Nat.{ℕ}
use mathlib.Core.Bool.{Bool, not, ◌||◌}
use mathlib.Core.List.{List}
use Rattle.sheet.specs.Format.{record_count, vacant}
use Rattle.sheet.specs.Inner.{is_flagged}
use Rattle.sheet.proofs.Loops.{Counting}
use Rattle.reader.proofs.checks.reached.Given as goal

abbrev left_out : List ℕ → List ℕ → ℕ → Bool
left_out s flags r = not (vacant s r || is_flagged flags r)

abbrev pub invariant-loop-r : goal.invariant-loop-r
invariant-loop-r l = Counting 7 (left_out l.sheet l.flags) (record_count l.sheet) l.r
