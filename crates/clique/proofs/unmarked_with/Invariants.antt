-- `clique::unmarked_with`: the classes from lot y on come to what all do.
use mathlib.Core.Path.{◌≡◌}
use Rattle.equality.specs.Node.{Node}
use Rattle.limit.specs.Rule.{split_with}
use Rattle.limit.specs.Scan.{classes_from}
use Rattle.marks.specs.Marks.{mark_at}
use Rattle.clique.proofs.unmarked_with.Given as goal

abbrev pub invariant-loop-y : goal.invariant-loop-y
invariant-loop-y l = (others : Node) → split_with (mark_at l.bytes l.table) l.x (classes_from l.lots l.end l.from) others ≡ split_with (mark_at l.bytes l.table) l.x (classes_from l.lots l.end l.y) others
