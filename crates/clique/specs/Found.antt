-- The pair found as the definition's node, for the contracts of the code; this file states nothing of document 02.
use Rattle.std.specs.Prelude.{ℕ, ◌≤◌, List, Option, Some, None}
use Rattle.buffers.specs.Lists.{All}
use Rattle.sheet.specs.declared.Lot.{Lot}
use Rattle.sheet.specs.Format.{most_lots}
use Rattle.equality.specs.Node.{Node, split, clique}

abbrev pub found_as : Option (Lot × Lot) → Node
found_as (Some pair) = split pair.0.0 pair.1.0
found_as None = clique

-- The class that is found with the class x, as a node; where there is none, what the others come to.
abbrev pub found_with : ℕ → Option ℕ → Node → Node
found_with x (Some y) others = split x y
found_with x None others = others

-- A list of lots.
abbrev pub Listed : List ℕ → Type 0
Listed list = All (λ lot. lot ≤ most_lots) list
