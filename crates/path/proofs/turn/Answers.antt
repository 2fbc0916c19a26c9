-- `path::turn`: what the lent path holds when it comes back is in the numbers that were lent.
use Rattle.std.proofs.Common.{arith}
use Rattle.path.proofs.Splits.{path-turned}
use Rattle.path.proofs.turn.Goals as goal

pub returns : goal.returns
returns c =
    grind (arith, path-turned)
