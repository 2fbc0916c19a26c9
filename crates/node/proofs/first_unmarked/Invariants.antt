-- `node::first_unmarked`: the terms that the loop over a run of records has passed since the run began, and those that the loop over the runs has passed before, are
-- closed by the table; the first that is not is where it leaves. The rest of the chain falls with each record, so it is shorter after a run than before.
use Prim.Native.Nat.{◌≤◌}
use lib.ListN.{length}
use Rattle.sheet.specs.Conditions.{records_from}
use Rattle.equality.proofs.Passing.{Passing}
use Rattle.node.proofs.Opening.{table_of, open_by}
use Rattle.node.proofs.first_unmarked.Given as goal

abbrev pub invariant-loop-a : goal.invariant-loop-a
invariant-loop-a l = (1 ≤ l.at.0) × Passing (open_by (table_of l.lots l.pairs l.table)) l.sheet l.initial.at.0 l.at.0 × (length (records_from l.sheet l.at.0) ≤ length (records_from l.sheet l.initial.at.0))

abbrev pub invariant-chain : goal.invariant-chain
invariant-chain l = Passing (open_by (table_of l.lots l.pairs l.table)) l.sheet l.initial.at.0 l.at.0

abbrev pub decreases-loop-a : goal.decreases-loop-a
decreases-loop-a l = length (records_from l.sheet l.at.0)

abbrev pub decreases-chain : goal.decreases-chain
decreases-chain l = length (records_from l.sheet l.at.0)
