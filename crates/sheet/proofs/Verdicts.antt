-- Laws of verdicts: one after another, and the lowest number that fails.
use Prim.Native.Nat.{ℕ, zero, suc, ◌+◌, ◌≤◌, ◌<◌}
use mathlib.Core.Bool.{Bool, true, false}
use mathlib.Core.List.{List, ◌∷◌}
use mathlib.Core.Path.{◌≡◌, refl, ap, ap₂, ◌∙◌}
use native.Mathlib.Omega.{arith}
use lib.Dec.{eqb}
use borrow.Author.Tests.{eqb-true, eqb-false}
use Rattle.sheet.specs.Verdicts.{Verdict, Passes, Refuses}
use Rattle.sheet.specs.Checks.{or_else, first_refusal, refuses_if, lowest_refusal}

-- No verdict both passes and refuses.
pub not-both : {v : Verdict} {check place : ℕ} → v ≡ Passes → v ≡ Refuses check place → ⊥
not-both p r = let z : ◌≡◌ {A = ℕ} 0 1 = cc in omega arith

-- ---- one verdict after another

-- A verdict that passes leaves what follows it,
pub passed_on : {v w : Verdict} → v ≡ Passes → or_else v w ≡ w
passed_on e = rw e

-- and one that refuses decides.
pub refused_here : {v u : Verdict} (w : Verdict) {check place : ℕ} → v ≡ u → v ≡ Refuses check place → v ≡ or_else u w
refused_here w same e = rw (← same, e)

-- A pass at the end changes nothing,
pub or_else_end : (v : Verdict) → or_else v Passes ≡ v
or_else_end Passes = refl
or_else_end (Refuses check place) = refl

-- and three verdicts in a row may be read from either end.
pub or_else_assoc : (u v w : Verdict) → or_else (or_else u v) w ≡ or_else u (or_else v w)
or_else_assoc Passes v w = refl
or_else_assoc (Refuses check place) v w = refl

-- Where two verdicts pass in a row, each of them does;
pub or_else-passes : (a b : Verdict) → or_else a b ≡ Passes → (a ≡ Passes) × (b ≡ Passes)
or_else-passes Passes b e = (refl, e)
or_else-passes (Refuses check place) b e = (e, cc)

-- and the other way round.
pub passes-or_else : (a b : Verdict) → a ≡ Passes → b ≡ Passes → or_else a b ≡ Passes
passes-or_else a b p q = cc

-- Where a list of verdicts passes, its first and its rest do;
pub first_refusal-passes : (v : Verdict) (vs : List Verdict) → first_refusal (v ∷ vs) ≡ Passes → (v ≡ Passes) × (first_refusal vs ≡ Passes)
unfolding first_refusal
first_refusal-passes v vs e = or_else-passes v (first_refusal vs) e

-- and the other way round.
pub passes-first_refusal : (v : Verdict) (vs : List Verdict) → v ≡ Passes → first_refusal vs ≡ Passes → first_refusal (v ∷ vs) ≡ Passes
unfolding first_refusal
passes-first_refusal v vs p q = passes-or_else v (first_refusal vs) p q

-- Where a check passes, its test does not hold;
pub refuses_if-passes : (b : Bool) (check place : ℕ) → refuses_if b check place ≡ Passes → b ≡ false
refuses_if-passes true check place e = cc
refuses_if-passes false check place e = refl

-- and the other way round.
pub passes-refuses_if : (b : Bool) (check place : ℕ) → b ≡ false → refuses_if b check place ≡ Passes
passes-refuses_if b check place e = rw e

-- ---- the lowest number that fails

module _ (check : ℕ) (fails : ℕ → Bool) where
  -- Where it passes, no number of its range fails;
  pub lowest_passes : (count from : ℕ) → lowest_refusal check fails count from ≡ Passes → (i : ℕ) → from ≤ i → i < from + count → fails i ≡ false
  unfolding lowest_refusal
  lowest_passes zero from e i low high = absurd (omega arith)
  lowest_passes (suc count) from e i low high =
      let both = or_else-passes _ _ e in
      go (refuses_if-passes (fails from) check from both.0) (λ l. lowest_passes count (suc from) both.1 i l (omega arith)) (eqb i from) refl
    where
      go : fails from ≡ false → (suc from ≤ i → fails i ≡ false) → (b : Bool) → eqb i from ≡ b → fails i ≡ false
      go here rest true q = ap fails (eqb-true i from q) ∙ here
      go here rest false q = rest (omega (arith, eqb-false i from q))

  -- and the other way round.
  pub passes_lowest : (count from : ℕ) → ((i : ℕ) → from ≤ i → i < from + count → fails i ≡ false) → lowest_refusal check fails count from ≡ Passes
  unfolding lowest_refusal
  passes_lowest zero from h = refl
  passes_lowest (suc count) from h =
      passes-or_else _ _ (passes-refuses_if _ check from (h from (omega arith) (omega arith)))
      (passes_lowest count (suc from) (λ i low high. h i (omega arith) (omega arith)))

  -- Another test that agrees on the range gives the same verdict.
  pub lowest_agrees : (other : ℕ → Bool) (count from : ℕ) → ((i : ℕ) → from ≤ i → i < from + count → fails i ≡ other i)
      → lowest_refusal check fails count from ≡ lowest_refusal check other count from
  unfolding lowest_refusal
  lowest_agrees other zero from h = refl
  lowest_agrees other (suc count) from h =
      ap₂ (λ b v. or_else (refuses_if b check from) v) (h from (omega arith) (omega arith))
      (lowest_agrees other count (suc from) (λ i low high. h i (omega arith) (omega arith)))
