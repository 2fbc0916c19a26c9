use Rattle.reader.proofs.Flags.{unflagged}
use Rattle.reader.proofs.WalkLoops.{Walking}
use Rattle.reader.proofs.once.walk_chain.Given as goal

abbrev pub invariant-loop-at : goal.invariant-loop-at
invariant-loop-at l = Walking l.sheet l.initial.flags l.initial.at.0 l.flags l.at.0

abbrev pub decreases-loop-at : goal.decreases-loop-at
decreases-loop-at l = unflagged l.flags
