-- For the contracts of inner functions: what conditions count for before and after a reassignment, and what the inner functions ask of their callers. This file
-- states nothing of the documents.
use Rattle.std.specs.Prelude.{ℕ, ◌≤◌, cond, List, ◌≡◌, length}
use Rattle.sheet.specs.Format.{lot_count}
use Rattle.sheet.specs.Conditions.{Term, conditions}
use Rattle.sheet.specs.Inner.{HasConditions}
use Rattle.equality.specs.Evaluator.{number_in}
use Rattle.reassignment.specs.Count.{unmet_one, unmet_count}
use Rattle.reassignment.specs.Reassign.{names, naming, with_value}
use Rattle.reassign.specs.declared.Weight.{Weight}

-- What a condition counts for among those that name a lot: 1 where it names the lot and isn't met.
abbrev pub unmet_one_naming : (ℕ → ℕ) → ℕ → List Term → ℕ
unmet_one_naming f lot ts = cond (names lot ts) (unmet_one f ts) 0

-- Before and after, by two assignments: of one condition, of some of them, and of a sheet's by a grouping.
abbrev pub weight_of : (ℕ → ℕ) → (ℕ → ℕ) → ℕ → List Term → Weight
weight_of f g lot ts = record { before = unmet_one_naming f lot ts; after = unmet_one_naming g lot ts }

abbrev pub weight_all : (ℕ → ℕ) → (ℕ → ℕ) → ℕ → List (List Term) → Weight
weight_all f g lot tss = record { before = unmet_count f (naming lot tss); after = unmet_count g (naming lot tss) }

abbrev pub weight_in : List ℕ → List ℕ → ℕ → ℕ → Weight
weight_in s grouping lot value = weight_all (number_in grouping) (number_in (with_value grouping lot value)) lot (conditions s)

-- The sheet is accepted, with n lots and m conditions; the grouping has a byte for each lot; and the lot is one of them.
pub record Reassignable (s grouping : List ℕ) (n m lot : ℕ) : Type 0 where
  pub sheet : HasConditions s m
  pub lots : n ≡ lot_count s
  pub room : n ≤ length grouping
  pub low : 1 ≤ lot
  pub high : lot ≤ n
