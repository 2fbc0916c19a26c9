-- `leaves::past_false`: every term that the loop has passed is false by the classes and the path's splits; it leaves at the first that isn't, or for which no
-- more splits are walked over.
use lib.ListN.{length}
use Rattle.sheet.specs.Conditions.{records_from}
use Rattle.equality.specs.Node.{marked}
use Rattle.equality.proofs.Passing.{Passing}
use Rattle.leaves.specs.Terms.{allows}
use Rattle.leaves.proofs.Splits.{decided}
use Rattle.leaves.proofs.past_false.Given as goal

abbrev pub invariant-loop-at : goal.invariant-loop-at
invariant-loop-at l = Passing (allows l.lots (marked l.lots (decided l.path l.depth))) l.sheet l.initial.at.0 l.at.0

abbrev pub decreases-loop-at : goal.decreases-loop-at
decreases-loop-at l = length (records_from l.sheet l.at.0)
