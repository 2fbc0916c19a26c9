-- `counter::count_all`: the conditions that the loop has passed are added up.
use Rattle.evaluator.specs.Numbers.{number_at}
use Rattle.reassignment.specs.Count.{unmet_count}
use Rattle.reassignment.proofs.Summing.{Summing}
use Rattle.counter.proofs.count_all.Given as goal

abbrev pub invariant-loop-c : goal.invariant-loop-c
invariant-loop-c l = Summing (unmet_count (number_at l.numbers)) l.sheet l.c l.count
