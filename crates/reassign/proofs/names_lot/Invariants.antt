-- `reassign::names_lot`: no term that the loop has passed names the lot; what is left of the chain falls.
use lib.ListN.{length}
use Rattle.sheet.specs.Conditions.{records_from}
use Rattle.equality.proofs.Passing.{Passing}
use Rattle.reassignment.specs.Reassign.{term_names}
use Rattle.reassign.proofs.names_lot.Given as goal

abbrev pub invariant-loop-at : goal.invariant-loop-at
invariant-loop-at l = Passing (term_names l.lot.0) l.sheet l.initial.at.0 l.at.0

abbrev pub decreases-loop-at : goal.decreases-loop-at
decreases-loop-at l = length (records_from l.sheet l.at.0)
