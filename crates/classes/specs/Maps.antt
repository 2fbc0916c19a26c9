-- The class map as a list: an entry for each number that a lot can have, 0 included. For the contracts of the code; this file states nothing of document 01.
use Rattle.std.specs.Prelude.{ℕ, suc, ◌≤◌, List, ◌≡◌, length}
use Rattle.sheet.specs.Format.{most_lots}
use Rattle.equality.specs.Node.{class_of}

abbrev pub entries : ℕ
entries = suc most_lots

-- Each lot's class is a lot.
abbrev pub ClassesWithin : List ℕ → Type 0
ClassesWithin cs = (lot : ℕ) → lot ≤ most_lots → class_of cs lot ≤ most_lots

-- A class map: it has its entries, and each lot's class is a lot.
pub record ClassMap (cs : List ℕ) : Type 0 where
  pub size : length cs ≡ entries
  pub within : ClassesWithin cs
