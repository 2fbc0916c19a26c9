-- How the room that the visits have is enough: the laws by which one number goes with another. Each number may be changed while they hold.
use Prim.Native.Nat.{ℕ, ◌+◌, ◌*◌, ◌≤◌, ◌<◌}
use mathlib.Core.List.{List}
use native.Mathlib.Omega.{arith}
use Rattle.sheet.specs.Format.{lot_count}
use Rattle.sheet.specs.Checks.{Accepted}
use Rattle.sheet.specs.Conditions.{conditions}
use Rattle.sheet.proofs.Accepted.{sound}
use Rattle.sheet.proofs.Conditions.{terms-length}
use Rattle.equality.specs.Node.{Decisions}
use Rattle.equality.proofs.Bounds.{all_same_terms_lem}
use Rattle.equality.proofs.Opens.{opens_all_same}
use Rattle.limit.specs.Meaning.{Limit, unlimited, up_to}
use Rattle.limit.specs.Search.{open_under}
use Rattle.limit.proofs.Pairs.{undecided_most, most_pairs}
use Rattle.visit.specs.Limits.{most_depth, pairs_room, most_level}

-- A path may be as long as a sheet can have records, or with a limit pairs of lots, so that no more is open than splits may close.
pub opens-within : (limit : Limit) (s : List ℕ) → Accepted s → (ds : Decisions) → open_under limit (lot_count s) (conditions s) ds ≤ most_depth limit
unfolding most_depth
opens-within unlimited s ok ds =
    omega (arith, opens_all_same ds (conditions s), all_same_terms_lem (conditions s), terms-length s ok, (sound s ok).header.records)
opens-within (up_to g) s ok ds = omega (arith, undecided_most (lot_count s) ds, most_pairs (lot_count s) (sound s ok).header.lots)

-- The pairs have two bytes for each split of a path,
pub pairs_enough : (limit : Limit) → 2 * most_depth limit ≤ pairs_room limit
unfolding most_depth pairs_room
pairs_enough unlimited = omega arith
pairs_enough (up_to g) = omega arith

-- a count of them fits the code's number,
pub pairs-count : (limit : Limit) → pairs_room limit < 4294967296
unfolding pairs_room
pairs-count unlimited = omega arith
pairs-count (up_to g) = omega arith

-- from the first level on each split has one more,
pub levels_enough : (limit : Limit) → 1 + most_depth limit ≤ most_level
unfolding most_depth most_level
levels_enough unlimited = omega arith
levels_enough (up_to g) = omega arith

-- and a level fits the code's number.
pub level_fits : most_level < 65536
unfolding most_level
level_fits = omega arith
