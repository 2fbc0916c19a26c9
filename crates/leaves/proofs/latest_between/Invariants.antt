-- `leaves::latest_between`: none of the splits that were passed is set apart between x and y, so the latest of the first `depth` is that of the first i.
use mathlib.Core.Path.{◌≡◌}
use Rattle.leaves.proofs.Splits.{latest_of}
use Rattle.leaves.proofs.latest_between.Given as goal

abbrev pub invariant-loop-i : goal.invariant-loop-i
invariant-loop-i l = latest_of l.lots l.path l.x l.y l.depth ≡ latest_of l.lots l.path l.x l.y l.i
