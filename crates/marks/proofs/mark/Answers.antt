-- `marks::mark`: by the order of the two classes.
use native.Mathlib.Omega.{arith}
use Rattle.marks.proofs.Bytes.{marked-first, marked-second}
use Rattle.marks.proofs.mark.Goals as goal

pub returns-then-x-y : goal.returns-then-x-y
returns-then-x-y c =
    grind (arith, marked-first)

pub returns-then-y-x : goal.returns-then-y-x
returns-then-y-x c =
    grind (arith, marked-second)
