-- For the contracts of inner functions: the numbers of all lots, an entry for each. This file states nothing of document 01.
use Rattle.std.specs.Prelude.{ℕ, ◌<◌, List, length, get_or}
use Rattle.sheet.specs.Format.{lot_count}
use Rattle.sheet.specs.Inner.{HasConditions}

-- The number at a lot's entry.
abbrev pub number_at : List ℕ → ℕ → ℕ
number_at numbers lot = get_or numbers lot 0

-- The sheet is accepted, with m conditions, and each of its lots, lot 0 among them, has an entry.
pub record Evaluable (s numbers : List ℕ) (m : ℕ) : Type 0 where
  pub sheet : HasConditions s m
  pub room : lot_count s < length numbers
