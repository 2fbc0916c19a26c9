-- `node::first_open`: the terms that the loop has passed are closed by the marks; it leaves at the first that is not, and the terms from the record on decide
-- what the node is, by the table where the loop has left them.
use lib.ListN.{length}
use Rattle.sheet.specs.Conditions.{records_from}
use Rattle.equality.proofs.Passing.{Passing}
use Rattle.node.proofs.Opening.{marks_of, open_by}
use Rattle.node.proofs.first_open.Given as goal

abbrev pub invariant-loop-at : goal.invariant-loop-at
invariant-loop-at l = Passing (open_by (marks_of l.map.lots l.pairs l.count)) l.sheet l.initial.at.0 l.at.0

abbrev pub decreases-loop-at : goal.decreases-loop-at
decreases-loop-at l = length (records_from l.sheet l.at.0)
