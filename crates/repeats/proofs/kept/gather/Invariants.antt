-- `repeats::kept::gather`: of the conditions passed those that stay are entered; with what stays of the others they come to what stays of all.
use Rattle.repeats.proofs.Gathering.{Gathering}
use Rattle.repeats.proofs.kept.gather.Given as goal

abbrev pub invariant-loop-c : goal.invariant-loop-c
invariant-loop-c l = Gathering l.first l.mine l.second l.initial.others l.c l.others l.upto l.terms
