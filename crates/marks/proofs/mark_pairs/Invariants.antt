-- `marks::mark_pairs`: the classes of the first i pairs are marked, by the pairs as they were at the start, and nothing around the table is changed.
use Rattle.classes.specs.Pairs.{set_apart}
use Rattle.marks.specs.Marks.{Marks, Outside}
use Rattle.marks.proofs.mark_pairs.Given as goal

abbrev pub invariant-loop-i : goal.invariant-loop-i
invariant-loop-i l = Marks l.bytes l.at l.lots (set_apart l.initial.bytes l.i) × Outside l.initial.bytes l.bytes l.at
