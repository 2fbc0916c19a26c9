use Rattle.reader.proofs.WalkLoops.{Chaining}
use Rattle.reader.proofs.once.walk.Given as goal

abbrev pub invariant-loop-c : goal.invariant-loop-c
invariant-loop-c l = Chaining l.sheet l.flags l.c
