-- `repeats::chains::equal_chains`: what is left of the two chains decides; what is left of the first falls.
use lib.ListN.{length}
use Rattle.sheet.specs.Conditions.{records_from}
use Rattle.repeats.proofs.Comparing.{Comparing}
use Rattle.repeats.proofs.chains.equal_chains.Given as goal

abbrev pub invariant-loop-p : goal.invariant-loop-p
invariant-loop-p l = Comparing l.first l.second l.initial.p.0 l.initial.q.0 l.p.0 l.q.0

abbrev pub decreases-loop-p : goal.decreases-loop-p
decreases-loop-p l = length (records_from l.first l.p.0)
