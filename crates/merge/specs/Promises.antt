-- What a merge promises of the sheet that it writes.
use Rattle.std.specs.Prelude.{ℕ, ◌-◌, false, List, [], ◌++◌, ◌↔◌, ◌≡◌}
use Rattle.sheet.specs.Conditions.{Term, conditions}
use Rattle.equality.specs.Meaning.{Meets}
use Rattle.repeats.specs.Repeats.{has_terms}
use Rattle.merge.specs.Places.{StandsAt, left_out, left_out_before}

-- "A numbering meets it exactly when it meets both sheets.": every function from lots to whole numbers, and so each that has 0 for lot 0.
abbrev pub MeetsBoth : List ℕ → List ℕ → List ℕ → Type 0
MeetsBoth w s t = (f : ℕ → ℕ) → (Meets f w ↔ Meets f s × Meets f t)

-- "keeping a struck place comes first": of the conditions of both sheets, those of the second behind those of the first,
pub record Placed (w s t : List ℕ) : Type 0 where
  -- each withdrawn one stays, and moves only by the repeats left out before it;
  pub withdrawn : (i : ℕ) → StandsAt (conditions s ++ conditions t) i []
      → StandsAt (conditions w) (i - left_out_before has_terms (conditions s ++ conditions t) i) []
  -- and so does each other one that isn't left out itself.
  pub others : (i : ℕ) (ts : List Term) → StandsAt (conditions s ++ conditions t) i ts → left_out has_terms (conditions s ++ conditions t) i ≡ false
      → StandsAt (conditions w) (i - left_out_before has_terms (conditions s ++ conditions t) i) ts
