-- `path::push`: what the lent path holds when it comes back is in the numbers that were lent.
use Rattle.std.proofs.Common.{arith}
use Rattle.path.proofs.Splits.{path_pushed}
use Rattle.path.proofs.push.Goals as goal

pub returns-clause-path : goal.returns-clause-path
returns-clause-path c =
    grind (arith, path_pushed)
