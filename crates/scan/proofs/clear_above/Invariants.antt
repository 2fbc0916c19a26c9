-- `scan::clear_above`: the first levels, as many as the index, have been looked at, and the others are as they were.
use Prim.Native.Nat.{ℕ, ◌≤◌, ◌<◌}
use mathlib.Core.Bool.{cond}
use mathlib.Core.Path.{◌≡◌}
use lib.Dec.{ltb}
use lib.ListN.{get_or}
use Rattle.scan.proofs.clear_above.Given as goal

abbrev pub invariant-loop-noted : goal.invariant-loop-noted
invariant-loop-noted l =
    ((k : ℕ) → k < l.noted-index → get_or l.levels k 0 ≡ cond (ltb l.level (get_or l.initial.levels k 0)) 0 (get_or l.initial.levels k 0))
    × ((k : ℕ) → l.noted-index ≤ k → get_or l.levels k 0 ≡ get_or l.initial.levels k 0)
