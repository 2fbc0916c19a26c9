use mathlib.Core.Path.{◌≡◌}
use lib.Dec.{eqb}
use lib.ListN.{length}
use Rattle.sheet.specs.Conditions.{records_from}
use Rattle.evaluator.specs.Numbers.{number_at}
use Rattle.evaluator.proofs.FirstTrue.{EveryTermPassedIsFalse}
use Rattle.evaluator.proofs.is_met.Given as goal

-- Every term that the loop has passed, from the chain's first to the one before the record at hand, is false; the answer so far is whether there is no term.
abbrev pub invariant-loop-at : goal.invariant-loop-at
invariant-loop-at l = EveryTermPassedIsFalse (number_at l.numbers) l.sheet l.initial.at.0 l.at.0 × (l.met ≡ eqb l.initial.at.0 0)

abbrev pub decreases-loop-at : goal.decreases-loop-at
decreases-loop-at l = length (records_from l.sheet l.at.0)
