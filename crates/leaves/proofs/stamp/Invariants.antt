-- `leaves::stamp`: after i turns the table has the marks of the first i splits.
use Rattle.marks.specs.Marks.{Marks}
use Rattle.leaves.proofs.Splits.{decided}
use Rattle.leaves.proofs.stamp.Given as goal

abbrev pub invariant-loop-i : goal.invariant-loop-i
invariant-loop-i l = Marks l.table 0 l.lots (decided l.path l.i)
