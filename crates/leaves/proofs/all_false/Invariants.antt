-- `leaves::all_false`: every term that the loop over a run of records has passed since the run began, and every term that the loop over the runs has passed before,
-- is false by the classes and the table; it leaves at the first that isn't. The rest of the chain falls with each record.
use Prim.Native.Nat.{◌≤◌}
use lib.ListN.{length}
use Rattle.sheet.specs.Conditions.{records_from}
use Rattle.equality.proofs.Passing.{Passing}
use Rattle.marks.specs.Marks.{mark_at}
use Rattle.leaves.specs.Terms.{allows}
use Rattle.leaves.proofs.all_false.Given as goal

abbrev pub invariant-loop-t : goal.invariant-loop-t
invariant-loop-t l = (1 ≤ l.at.0) × Passing (allows l.lots (mark_at l.table 0)) l.sheet l.initial.at.0 l.at.0 × (length (records_from l.sheet l.at.0) ≤ length (records_from l.sheet l.initial.at.0))

abbrev pub invariant-chain : goal.invariant-chain
invariant-chain l = Passing (allows l.lots (mark_at l.table 0)) l.sheet l.initial.at.0 l.at.0

abbrev pub decreases-loop-t : goal.decreases-loop-t
decreases-loop-t l = length (records_from l.sheet l.at.0)

abbrev pub decreases-chain : goal.decreases-chain
decreases-chain l = length (records_from l.sheet l.at.0)
