-- The steps of the walk, for the contracts of the code; this file states nothing of document 01.
use Rattle.std.specs.Prelude.{ℕ, ◌*◌, ◌≤◌, ◌<◌, Bool, true, false, List, [], ◌∷◌, Option, None, Some, Result, Ok, Err, ◌≡◌, length}
use Rattle.sheet.specs.declared.refusal.Refusal.{Refusal}
use Rattle.sheet.specs.Refusals.{check_of, place_of}
use Rattle.sheet.specs.declared.Header.{Header}
use Rattle.sheet.specs.Verdicts.{Verdict, Passes, Refuses}
use Rattle.sheet.specs.Format.{lot_count}
use Rattle.sheet.specs.Inner.{HasConditions}
use Rattle.store.specs.Records.{NodeRecord}
use Rattle.refutation.specs.Refutation.{Split}
use Rattle.path.specs.Paths.{split_length, path_of}
use Rattle.levels.specs.Levels.{Walkable}

-- The sheet is accepted, and these are its counts of lots and conditions.
pub record Counted (s : List ℕ) (counts : Header) : Type 0 where
  pub sheet : HasConditions s counts.conditions
  pub lots : counts.lots ≡ lot_count s

-- The lent numbers have room for a path of so many splits, and the lent levels for those under its splits and above them all.
pub record RoomFor (most : ℕ) (path levels : List ℕ) : Type 0 where
  pub splits : split_length * most ≤ length path
  pub places : most < length levels

-- The records that are left, and the walk over them, from a record's number and the splits above it.
abbrev pub Rest : Type 0
Rest = List NodeRecord

abbrev pub WalkRest : Type 0
WalkRest = ℕ → List Split → Verdict

-- What a step makes of the walk, whose rest is `walk_rest`: it goes on at the following record with so many splits above it, the list passes, or a check
-- refuses.
abbrev pub step_as : WalkRest → ℕ → List ℕ → Result (Option ℕ) Refusal → Verdict
step_as walk_rest following path (Ok (Some depth)) = walk_rest following (path_of path depth)
step_as walk_rest following path (Ok None) = Passes
step_as walk_rest following path (Err r) = Refuses (check_of r) (place_of r)

-- No record is left.
abbrev pub none_left : Rest → Bool
none_left [] = true
none_left (r ∷ rest) = false

-- Where the walk goes on, its path is one, and the levels are those of its splits.
abbrev pub GoesOn : List ℕ → List ℕ → List ℕ → Result (Option ℕ) Refusal → Type 0
GoesOn path maps levels (Ok (Some depth)) = Walkable path maps levels depth
GoesOn path maps levels (Ok None) = Unit {0}
GoesOn path maps levels (Err r) = Unit {0}
