use lib.ListN.{length}
use Rattle.sheet.specs.Conditions.{records_from}
use Rattle.writer.specs.Drafts.{draft}
use Rattle.writer.proofs.Adding.{Adding}
use Rattle.writer.proofs.add_chain.Given as goal

abbrev pub invariant-loop-at : goal.invariant-loop-at
invariant-loop-at l = Adding l.sheet l.initial.at.0 (draft l.initial.out l.initial.next) l.at.0 (draft l.out l.next)

abbrev pub decreases-loop-at : goal.decreases-loop-at
decreases-loop-at l = length (records_from l.sheet l.at.0)
