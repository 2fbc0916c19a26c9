-- `path::nearest`: the splits from `top` on are in their apart branch, so the nearest in its same branch is that of the first `top`; the numbers stay, and `top` falls.
use Prim.Native.Nat.{◌≤◌}
use mathlib.Core.Path.{◌≡◌}
use Rattle.refutation.specs.Refutation.{nearest}
use Rattle.path.specs.Paths.{path_of}
use Rattle.path.proofs.nearest.Given as goal

abbrev pub invariant-loop-top : goal.invariant-loop-top
invariant-loop-top l = (l.top ≤ l.depth) × (nearest (path_of l.initial.path l.depth) ≡ nearest (path_of l.initial.path l.top)) × (l.path ≡ l.initial.path)

abbrev pub decreases-loop-top : goal.decreases-loop-top
decreases-loop-top l = l.top
