-- Loops that count up and stop at the lowest number that fails: what one turn does to a check by lowest_refusal.
use Prim.Native.Nat.{ℕ, suc, ◌+◌, ◌-◌, ◌≤◌, ◌<◌}
use mathlib.Core.Bool.{Bool, true, false}
use mathlib.Core.Path.{◌≡◌, sym, ap, ◌∙◌}
use native.Mathlib.Numerals.{add-one}
use native.Mathlib.Omega.{arith}
use Rattle.sheet.specs.Verdicts.{Passes, Refuses}
use Rattle.sheet.specs.Checks.{lowest_refusal}

-- None of the numbers 1 to c - 1 fails: the check is what it says of those from c on.
pub record Counting (check : ℕ) (fails : ℕ → Bool) (count c : ℕ) : Type 0 where
  pub least : 1 ≤ c
  pub most : c ≤ count + 1
  pub rest : lowest_refusal check fails count 1 ≡ lowest_refusal check fails (count + 1 - c) c

-- At the start,
pub start : {check : ℕ} {fails : ℕ → Bool} {count : ℕ} → Counting check fails count 1
start {check} {fails} {count} =
    record {
      least = omega arith;
      most = omega arith;
      rest = ap (λ (n : ℕ). lowest_refusal check fails n 1) (omega arith);
    }

module _ {check : ℕ} {fails : ℕ → Bool} {count c : ℕ} (i : Counting check fails count c) where
  -- past the last number,
  pub end : count < c → Passes ≡ lowest_refusal check fails count 1
  unfolding lowest_refusal
  end past =
      let none : count + 1 - c ≡ 0 = omega arith in
      sym (i.rest ∙ rw none)

  module _ (within : c ≤ count) where
    one_more : count + 1 - c ≡ suc (count - c)
    one_more = omega arith

    -- at a number that fails,
    pub refused : fails c ≡ true → Refuses check c ≡ lowest_refusal check fails count 1
    unfolding lowest_refusal
    refused e = sym (i.rest ∙ rw (one_more, e))

    -- and after one that does not.
    pub passed : fails c ≡ false → Counting check fails count (c + 1)
    unfolding lowest_refusal
    passed e =
        let less : count + 1 - (c + 1) ≡ count - c = omega arith in
        record {
          least = omega arith;
          most = omega arith;
          rest = i.rest ∙ rw (one_more, e, less, add-one);
        }
