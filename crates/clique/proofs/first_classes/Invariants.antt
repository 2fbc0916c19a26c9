-- `clique::first_classes`: so many classes are counted as have their smallest lot below `end`, one more than the limit at most.
use Prim.Native.Nat.{suc, ◌≤◌}
use mathlib.Core.Path.{◌≡◌}
use lib.ListN.{length}
use Rattle.limit.specs.Rule.{smallest_from}
use Rattle.clique.proofs.first_classes.Given as goal

abbrev pub invariant-loop-end : goal.invariant-loop-end
invariant-loop-end l = (l.count ≤ suc l.limit) × (l.count ≡ length (smallest_from l.lots l.end 0))
