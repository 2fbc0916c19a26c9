-- `classes::Classes::marked_apart`: no pair from `left` on marks, so the first `count` pairs mark exactly where the first `left` do.
use native.Mathlib.Omega.{arith}
use Rattle.classes.proofs.Marks.{found, passed, passed_by_xor, none_left_lem}
use Rattle.classes.proofs.Classes.marked_apart.Goals as goal

pub returns-then-between-clause-marked : goal.returns-then-between-clause-marked
returns-then-between-clause-marked c =
    grind (arith, found)

pub loop-left-preserved : goal.loop-left-preserved
loop-left-preserved c =
    grind (arith, passed, passed_by_xor)

pub returns-clause-marked : goal.returns-clause-marked
returns-clause-marked c =
    grind (arith, none_left_lem)
