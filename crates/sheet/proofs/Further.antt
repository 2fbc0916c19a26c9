-- Checks that follow those on the sheet's own bytes.
use Prim.Native.Nat.{ℕ}
use mathlib.Core.List.{List, [], ◌∷◌, ◌++◌}
use mathlib.Core.Path.{◌≡◌, refl, sym, ap, ◌∙◌}
use Rattle.sheet.specs.Verdicts.{Verdict, Passes}
use Rattle.sheet.specs.Checks.{or_else, first_refusal, sheet_checks, sheet_verdict, sheet_verdict_with, Accepted}
use Rattle.sheet.proofs.Verdicts.{or_else_assoc, or_else-passes}

first-append : (us vs : List Verdict) → first_refusal (us ++ vs) ≡ or_else (first_refusal us) (first_refusal vs)
unfolding first_refusal
first-append [] vs = refl
first-append (u ∷ us) vs = ap (or_else u) (first-append us vs) ∙ sym (or_else_assoc u (first_refusal us) (first_refusal vs))

module _ (s : List ℕ) (vs : List Verdict) where
  -- The sheet's verdict comes first,
  pub further : first_refusal (sheet_checks s ++ vs) ≡ or_else (sheet_verdict s) (first_refusal vs)
  unfolding sheet_verdict_with
  further = first-append (sheet_checks s) vs

  -- so that where all pass the sheet is accepted and the further checks pass;
  pub further_passes : first_refusal (sheet_checks s ++ vs) ≡ Passes → Accepted s × (first_refusal vs ≡ Passes)
  further_passes e = or_else-passes (sheet_verdict s) (first_refusal vs) (sym further ∙ e)

  -- and of an accepted sheet the further checks decide.
  pub further_accepted : Accepted s → first_refusal (sheet_checks s ++ vs) ≡ first_refusal vs
  further_accepted ok = further ∙ ap (λ (v : Verdict). or_else v (first_refusal vs)) ok
