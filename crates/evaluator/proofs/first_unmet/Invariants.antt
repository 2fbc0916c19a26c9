use Rattle.sheet.proofs.Scanning.{Scanning}
use Rattle.equality.specs.Evaluator.{lowest_unmet}
use Rattle.evaluator.specs.Numbers.{number_at}
use Rattle.evaluator.proofs.first_unmet.Given as goal

abbrev pub invariant-loop-c : goal.invariant-loop-c
invariant-loop-c l = Scanning (lowest_unmet (number_at l.numbers)) l.sheet l.c
