-- Under which numbers withdrawn conditions stand in a merged sheet (document 02, job 6).
use Rattle.std.specs.Prelude.{ℕ, ◌+◌, ◌-◌, ◌≤◌, List, ◌++◌, ◌≡◌}
use Rattle.sheet.specs.Format.{condition_count, head_at}
use Rattle.sheet.specs.Conditions.{conditions}
use Rattle.repeats.specs.Repeats.{has_terms}
use Rattle.merge.specs.Places.{left_out_before}

-- Condition c of a sheet is withdrawn.
pub record Withdrawn (s : List ℕ) (c : ℕ) : Type 0 where
  pub low : 1 ≤ c
  pub high : c ≤ condition_count s
  pub head : head_at s c ≡ 0

-- A withdrawn condition of the first sheet stands under its number, less the repeats left out before it;
abbrev pub FirstStand : List ℕ → List ℕ → Type 0
FirstStand w s = (c : ℕ) → Withdrawn s c → Withdrawn w (c - left_out_before has_terms (conditions s) (c - 1))

-- one of the second under its number behind the conditions of the first, less the repeats left out before it, of both.
abbrev pub SecondStand : List ℕ → List ℕ → List ℕ → Type 0
SecondStand w s t =
    (c : ℕ) → Withdrawn t c
    → Withdrawn w (condition_count s + c - left_out_before has_terms (conditions s ++ conditions t) (condition_count s + c - 1))
