-- `levels::copy_row`: below i every entry of the next row is that of the level's, and what stands before that row is as it was.
use Prim.Native.Nat.{ℕ, ◌+◌, ◌<◌}
use mathlib.Core.Path.{◌≡◌}
use lib.ListN.{length, get_or}
use Rattle.levels.specs.Levels.{maps_length}
use Rattle.levels.proofs.copy_row.Given as goal

abbrev pub invariant-loop-i : goal.invariant-loop-i
invariant-loop-i l = (length l.maps ≡ maps_length)
    × ((j : ℕ) → j < l.to → get_or l.maps j 0 ≡ get_or l.initial.maps j 0)
    × ((k : ℕ) → k < l.i → get_or l.maps (l.to + k) 0 ≡ get_or l.initial.maps (l.from + k) 0)
