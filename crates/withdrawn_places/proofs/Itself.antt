-- Where 18 doesn't refuse a sheet merged with itself.
use Prim.Native.Nat.{ℕ, ◌+◌, ◌≤◌}
use mathlib.Core.List.{List}
use mathlib.Core.Path.{◌≡◌}
use native.Mathlib.Omega.{arith}
use lib.ListN.{length}
use Rattle.sheet.specs.Format.{most_conditions, condition_count}
use Rattle.sheet.specs.Checks.{Accepted}
use Rattle.sheet.proofs.Accepted.{sound}
use Rattle.repeats.specs.Repeats.{has_terms, merged_conditions}
use Rattle.merge.proofs.Merged.{itself_few}
use Rattle.withdrawn_places.specs.Changes.{withdrawn_count}
use Rattle.withdrawn_places.proofs.Counting.{withdrawn-count}

module _ (s : List ℕ) (ok : Accepted s) where
  -- Its conditions, and its withdrawn ones once more, are few enough;
  pub itself_within : condition_count s + withdrawn_count s ≤ most_conditions → length (merged_conditions has_terms s s) ≤ most_conditions
  itself_within few = omega (arith, itself_few s, withdrawn-count s ok)

  -- and they are where none is withdrawn.
  pub never_refused : withdrawn_count s ≡ 0 → length (merged_conditions has_terms s s) ≤ most_conditions
  never_refused none = itself_within (omega (arith, none, (sound s ok).header.conditions))
