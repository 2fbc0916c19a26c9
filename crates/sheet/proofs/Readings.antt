-- What the reader's answer says of the sheet.
use Prim.Native.Nat.{ℕ}
use mathlib.Core.List.{List}
use mathlib.Core.Path.{◌≡◌, refl, ◌∙◌}
use native.Mathlib.Omega.{arith}
use Rattle.sheet.specs.Verdicts.{Verdict, Passes, Refuses}
use Rattle.sheet.specs.Format.{lot_count, condition_count, record_count}
use Rattle.sheet.specs.Checks.{sheet_verdict, Accepted}
use Rattle.sheet.specs.Answers.{refused, answered, answer_of, read_answer, read_answer_with}

-- The sheet is accepted, with these counts.
pub record ReadAs (s : List ℕ) (n m k : ℕ) : Type 0 where
  pub accepted : Accepted s
  pub lots : n ≡ lot_count s
  pub conditions : m ≡ condition_count s
  pub records : k ≡ record_count s

module _ (s : List ℕ) where
  -- A reading that accepts says that the sheet is accepted, and gives its counts;
  pub read_accepts : (n m k : ℕ) → answered n m k ≡ read_answer s → ReadAs s n m k
  unfolding read_answer_with
  read_accepts n m k e = go (sheet_verdict s) refl e
    where
      go : (v : Verdict) → sheet_verdict s ≡ v → answered n m k ≡ answer_of v (answered (lot_count s) (condition_count s) (record_count s)) → ReadAs s n m k
      go Passes q e = record { accepted = q; lots = cc; conditions = cc; records = cc }
      go (Refuses check place) q e = let z : ◌≡◌ {A = ℕ} 0 1 = cc in absurd (omega arith)

  -- one that refuses gives the first check that fails.
  pub read_refuses : (check place : ℕ) → refused check place ≡ read_answer s → sheet_verdict s ≡ Refuses check place
  unfolding read_answer_with
  read_refuses check place e = go (sheet_verdict s) refl e
    where
      go : (v : Verdict) → sheet_verdict s ≡ v → refused check place ≡ answer_of v (answered (lot_count s) (condition_count s) (record_count s))
          → sheet_verdict s ≡ Refuses check place
      go Passes q e = let z : ◌≡◌ {A = ℕ} 0 1 = cc in absurd (omega arith)
      go (Refuses c p) q e = let number : c ≡ check = cc in let at : p ≡ place = cc in q ∙ (λ i. Refuses (number i) (at i))
