-- What a withdrawal leaves to be met.
use Rattle.std.specs.Prelude.{ℕ, ◌≤◌, List, ◌≢◌}
use Rattle.sheet.specs.Format.{condition_count}
use Rattle.sheet.specs.Conditions.{condition_at}
use Rattle.equality.specs.Meaning.{MeetsCondition}

-- An assignment meets each condition of a sheet but c.
abbrev pub MeetsOthers : {A : Type 0} → (ℕ → A) → List ℕ → ℕ → Type 0
MeetsOthers f s c = (i : ℕ) → 1 ≤ i → i ≤ condition_count s → i ≢ c → MeetsCondition f (condition_at s i)
