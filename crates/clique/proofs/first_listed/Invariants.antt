-- `clique::first_listed`: the pairs of the classes from place `low` on come to what all of them do.
use mathlib.Core.Path.{◌≡◌}
use lib.ListN.{drop}
use Rattle.limit.specs.Rule.{clique_or_split}
use Rattle.marks.specs.Marks.{mark_at}
use Rattle.clique.proofs.first_listed.Given as goal

abbrev pub invariant-loop-low : goal.invariant-loop-low
invariant-loop-low l = clique_or_split (mark_at l.bytes l.table) l.list ≡ clique_or_split (mark_at l.bytes l.table) (drop l.low l.list)
