-- What a check of the table says: it passes, or it refuses with its number and the place that it gives.
use Rattle.std.specs.Prelude.{ℕ}

pub data Verdict : Type 0 where
  Passes : Verdict
  Refuses : ℕ → ℕ → Verdict
