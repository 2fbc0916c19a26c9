-- How a path is represented: its classes as a map, its pairs set apart as bytes, two for each pair.
use Rattle.std.specs.Prelude.{ℕ, zero, suc, ◌+◌, ◌*◌, ◌≤◌, ◌<◌, List, [], ◌∷◌, ◌≡◌, length, get_or, set}
use Rattle.sheet.specs.Format.{most_lots}
use Rattle.sheet.specs.Conditions.{same, apart}
use Rattle.equality.specs.Node.{Decisions, classes}
use Rattle.classes.specs.declared.Classes.{Classes}

-- The first `count` pairs as decisions, the latest first.
unfoldable pub set_apart : List ℕ → ℕ → Decisions
set_apart pairs zero = []
set_apart pairs (suc n) = apart (get_or pairs (2 * n) 0) (get_or pairs (2 * n + 1) 0) ∷ set_apart pairs n

-- The bytes with a pair written after the first `count`.
abbrev pub with_pair : List ℕ → ℕ → ℕ → ℕ → List ℕ
with_pair pairs count a b = set (set pairs (2 * count) a) (2 * count + 1) b

-- The first `count` pairs are there, and each of their lots has an entry in a map.
pub record PairsWithin (pairs : List ℕ) (count : ℕ) : Type 0 where
  pub within : 2 * count ≤ length pairs
  pub lots : (i : ℕ) → i < 2 * count → get_or pairs i 0 ≤ most_lots

-- The first `count` pairs are left as they are.
abbrev pub Untouched : List ℕ → List ℕ → ℕ → Type 0
Untouched pairs pairs' count = (i : ℕ) → i < 2 * count → get_or pairs' i 0 ≡ get_or pairs i 0

-- The decisions "apart" of a path, in order.
unfoldable pub only_apart : Decisions → Decisions
only_apart [] = []
only_apart (same a b ∷ ds) = only_apart ds
only_apart (apart a b ∷ ds) = apart a b ∷ only_apart ds

-- A map, and the first `count` pairs of some bytes, represent a path: the map has its classes, and the pairs are those that it sets apart.
pub record Represents (c : Classes) (bytes : List ℕ) (count : ℕ) (ds : Decisions) : Type 0 where
  pub lots : c.lots ≡ classes ds
  pub pairs : only_apart ds ≡ set_apart bytes count
