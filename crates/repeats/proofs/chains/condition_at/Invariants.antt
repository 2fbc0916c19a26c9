-- `repeats::chains::condition_at`: the digest and the number of the terms so far, with those that are left, come to those of all; what is left of the chain
-- falls.
use lib.ListN.{length}
use Rattle.sheet.specs.Conditions.{records_from}
use Rattle.repeats.proofs.Digesting.{Digesting}
use Rattle.repeats.proofs.chains.condition_at.Given as goal

abbrev pub invariant-loop-at : goal.invariant-loop-at
invariant-loop-at l = Digesting l.sheet l.initial.at.0 l.at.0 l.digest l.terms

abbrev pub decreases-loop-at : goal.decreases-loop-at
decreases-loop-at l = length (records_from l.sheet l.at.0)
