-- `clique::list_classes`: the classes in the list and those from `lot` on are all of them.
use Prim.Native.Nat.{suc, ◌+◌, ◌≤◌}
use mathlib.Core.List.{◌++◌}
use mathlib.Core.Path.{◌≡◌}
use lib.ListN.{take}
use Rattle.sheet.specs.Format.{most_lots}
use Rattle.limit.specs.Scan.{classes_from}
use Rattle.clique.proofs.list_classes.Given as goal

abbrev pub invariant-loop-lot : goal.invariant-loop-lot
invariant-loop-lot l = (l.count ≤ suc most_lots) × (l.count + l.from ≤ l.lot) × (take l.count l.list ++ classes_from l.lots l.end l.lot ≡ classes_from l.lots l.end l.from)
