-- The classes under each split of a path, in lent bytes: a class map for each level, and the level under so many splits. For the contracts of the
-- code; this file states nothing of document 01.
use Rattle.std.specs.Prelude.{ℕ, ◌*◌, ◌<◌, List, [], ◌∷◌, ◌≡◌, length, get_or, take, drop}
use Rattle.equality.specs.Node.{Decisions, classes}
use Rattle.classes.specs.Maps.{entries}
use Rattle.classes.specs.Joins.{joins}
use Rattle.refutation.specs.Refutation.{decisions_of}
use Rattle.path.specs.Paths.{path_of, PathWithin}

-- A class map is a row of the maps; and as many rows as a map has entries has a path's maps, since no path joins more often than there are lots.
abbrev pub maps_length : ℕ
maps_length = entries * entries

abbrev pub row : List ℕ → ℕ → List ℕ
row maps level = take entries (drop (entries * level) maps)

-- The level under so many splits, the root's first.
abbrev pub level_under : List ℕ → ℕ → ℕ
level_under levels depth = get_or levels depth 0

-- The level under a path's decisions is how many of them join two classes, and its row has their classes;
pub record LevelOf (maps levels : List ℕ) (ds : Decisions) : Type 0 where
  pub level : level_under levels (length ds) ≡ joins ds
  pub classes : row maps (joins ds) ≡ classes ds

-- and so it is under each split above.
unfoldable pub Leveled : List ℕ → List ℕ → Decisions → Type 0
Leveled maps levels [] = LevelOf maps levels []
Leveled maps levels (d ∷ ds) = LevelOf maps levels (d ∷ ds) × Leveled maps levels ds

-- A path of so many splits, and its levels.
pub record Walkable (path maps levels : List ℕ) (depth : ℕ) : Type 0 where
  pub within : PathWithin path depth
  pub rows : length maps ≡ maps_length
  pub places : depth < length levels
  pub leveled : Leveled maps levels (decisions_of (path_of path depth))
