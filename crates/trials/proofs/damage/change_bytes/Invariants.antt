-- `trials::damage::change_bytes`: what looks at the bytes may be called again.
use Rattle.trials.proofs.damage.change_bytes.Given as goal

abbrev pub invariant-loop-at : goal.invariant-loop-at
invariant-loop-at g l = goal.F-IsAlwaysCallable g l.look
