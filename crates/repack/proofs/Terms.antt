-- A loop over the records that counts those that aren't vacant: with those that are left, they come to all terms.
use Prim.Native.Nat.{ℕ, suc, ◌+◌, ◌-◌, ◌≤◌, ◌<◌}
use mathlib.Core.Bool.{Bool, true, false, cond}
use mathlib.Core.List.{List, ◌∷◌, flatten}
use mathlib.Core.Path.{◌≡◌, ap}
use native.Mathlib.Omega.{arith}
use lib.ListN.{length}
use Rattle.sheet.specs.Format.{record_count, vacant, filled_records}
use Rattle.sheet.specs.Checks.{Accepted}
use Rattle.sheet.specs.Conditions.{conditions}
use Rattle.sheet.proofs.Conditions.{terms-count}

-- Of the first r records `terms` are not vacant.
pub record Counted (s : List ℕ) (r terms : ℕ) : Type 0 where
  pub within : r ≤ record_count s
  pub few : terms ≤ r
  pub rest : terms + length (filled_records s (record_count s - r) (r + 1)) ≡ length (flatten (conditions s))

pub counted_start : (s : List ℕ) → Accepted s → Counted s 0 0
counted_start s ok =
    record {
      within = omega arith;
      few = omega arith;
      rest = omega (arith, terms-count s ok, ap (λ (k : ℕ). length (filled_records s k 1)) none_yet);
    }
  where
    none_yet : record_count s - 0 ≡ record_count s
    none_yet = omega arith

module _ {s : List ℕ} {r terms : ℕ} (l : Counted s r terms) where
  module _ (more : r < record_count s) where
    -- One record more, of those that are left.
    step : (b : Bool) → vacant s (r + 1) ≡ b
        → length (filled_records s (record_count s - r) (r + 1))
        ≡ length (cond b (filled_records s (record_count s - (r + 1)) (r + 1 + 1)) ((r + 1) ∷ filled_records s (record_count s - (r + 1)) (r + 1 + 1)))
    unfolding filled_records
    step b e =
        let one : record_count s - r ≡ suc (record_count s - (r + 1)) = omega arith in
        let after : suc (r + 1) ≡ r + 1 + 1 = omega arith in
        rw (one, e, after)

    -- A vacant one counts for nothing,
    pub vacant-next : vacant s (r + 1) ≡ true → Counted s (r + 1) terms
    vacant-next e = record { within = omega arith; few = omega (arith, l.few); rest = omega (arith, l.rest, step true e) }

    -- another for one term.
    pub filled_next : vacant s (r + 1) ≡ false → Counted s (r + 1) (terms + 1)
    filled_next e = record { within = omega arith; few = omega (arith, l.few); rest = omega (arith, l.rest, step false e) }

  -- The last one is counted: so are all terms.
  pub counted_end : record_count s ≤ r → terms ≡ length (flatten (conditions s))
  unfolding filled_records
  counted_end past =
      let none : record_count s - r ≡ 0 = omega arith in
      omega (arith, l.rest, ap (λ (k : ℕ). length (filled_records s k (r + 1))) none)
