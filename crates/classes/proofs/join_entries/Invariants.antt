use mathlib.Core.List.{◌++◌, map}
use mathlib.Core.Path.{◌≡◌}
use lib.ListN.{take, drop}
use Rattle.equality.proofs.Classes.{joined_to}
use Rattle.classes.proofs.join_entries.Given as goal

abbrev pub invariant-loop-lot : goal.invariant-loop-lot
invariant-loop-lot l = l.lots ≡ map (joined_to l.x l.y) (take l.lot-index l.initial.lots) ++ drop l.lot-index l.initial.lots
