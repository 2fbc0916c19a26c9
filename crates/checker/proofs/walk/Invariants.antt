-- `checker::walk`: past so many records the verdict is that of the walk over what is left, below the path's splits; the levels are those of the path, and no slice
-- has changed its length.
use Prim.Native.Nat.{◌+◌}
use mathlib.Core.Path.{◌≡◌}
use lib.ListN.{length}
use Rattle.limit.specs.Scan.{limit_in}
use Rattle.levels.specs.Levels.{Walkable}
use Rattle.checker.proofs.Walking.{Walking}
use Rattle.checker.proofs.walk.Given as goal

abbrev pub invariant-loop-before : goal.invariant-loop-before
invariant-loop-before l =
    Walking (limit_in l.limit) l.sheet l.list l.path l.depth (l.before + 1)
    × Walkable l.path l.maps l.levels l.depth
    × (length l.table ≡ length l.initial.table)
    × (length l.path ≡ length l.initial.path)
    × (length l.levels ≡ length l.initial.levels)
