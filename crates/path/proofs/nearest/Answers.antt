use Rattle.std.proofs.Common.{arith}
use Rattle.path.proofs.Splits.{nearest_top, nearest-above, nearest_root}
use Rattle.path.proofs.nearest.Goals as goal

pub returns-then-branch-eq-SAME_BRANCH-clause-nearest : goal.returns-then-branch-eq-SAME_BRANCH-clause-nearest
returns-then-branch-eq-SAME_BRANCH-clause-nearest c =
    grind (arith, nearest_top)

pub loop-top-preserved : goal.loop-top-preserved
loop-top-preserved c =
    grind (arith, nearest-above)

pub returns-clause-nearest : goal.returns-clause-nearest
returns-clause-nearest c =
    grind (arith, nearest_root)
