-- The lowest unmet condition is found by a loop over the conditions that leaves at the first which is not met.
use Prim.Native.Nat.{ℕ}
use mathlib.Core.Path.{refl}
use Rattle.sheet.proofs.Scanning.{Goes}
use Rattle.equality.specs.Meaning.{meets_condition}
use Rattle.equality.specs.Evaluator.{lowest_unmet}

pub lowest_goes : (f : ℕ → ℕ) → Goes (meets_condition f) (λ c ts. c) 0 (lowest_unmet f)
unfolding lowest_unmet
lowest_goes f = record { end = λ c. refl; step = λ c ts tss. refl }
