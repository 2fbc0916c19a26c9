-- `path::drop_last`: what the lent path holds when it comes back is in the numbers that were lent.
use Rattle.std.proofs.Common.{arith}
use Rattle.path.proofs.Splits.{path_top}
use Rattle.path.proofs.drop_last.Goals as goal

pub returns-clause-path : goal.returns-clause-path
returns-clause-path c =
    grind (arith, path_top)
