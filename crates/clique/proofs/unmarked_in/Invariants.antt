-- `clique::unmarked_in`: the classes from y on come to what all of the list do.
use mathlib.Core.Path.{◌≡◌}
use lib.ListN.{drop}
use Rattle.equality.specs.Node.{Node}
use Rattle.limit.specs.Rule.{split_with}
use Rattle.marks.specs.Marks.{mark_at}
use Rattle.clique.proofs.unmarked_in.Given as goal

abbrev pub invariant-loop-y : goal.invariant-loop-y
invariant-loop-y l = (others : Node) → split_with (mark_at l.bytes l.table) l.x l.list others ≡ split_with (mark_at l.bytes l.table) l.x (drop l.y-index l.list) others
