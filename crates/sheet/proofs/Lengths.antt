-- One check behind those on the sheet's own bytes: a buffer that is shorter than it has to be is refused, with the length that it needs as the place.
use Prim.Native.Nat.{ℕ, ◌≤◌, ◌<◌}
use mathlib.Core.List.{List, [], ◌∷◌, ◌++◌}
use mathlib.Core.Path.{◌≡◌, sym, ap, subst, ◌∙◌}
use borrow.Author.Tests.{lt-ltb, le-ltb}
use lib.Dec.{ltb}
use lib.ListN.{length}
use Rattle.sheet.specs.Verdicts.{Verdict, Passes, Refuses}
use Rattle.sheet.specs.Checks.{Accepted, or_else, first_refusal, refuses_if, sheet_checks, sheet_verdict}
use Rattle.sheet.proofs.Further.{further, further_accepted}
use Rattle.sheet.proofs.Numbered.{Number, Numbered, either, test, sheet_numbered}

module _ (s buffer : List ℕ) (check least : ℕ) where
  -- The check, and the verdict of all.
  abbrev pub shorter : Verdict
  shorter = refuses_if (ltb (length buffer) least) check least

  abbrev pub sheet_then : Verdict
  sheet_then = first_refusal (sheet_checks s ++ shorter ∷ [])

  -- A sheet that is refused,
  pub sheet-first : (c p : ℕ) → sheet_verdict s ≡ Refuses c p → sheet_then ≡ Refuses c p
  sheet-first c p e = further s (shorter ∷ []) ∙ ap (λ (v : Verdict). or_else v (first_refusal (shorter ∷ []))) e

  -- a buffer that is too short,
  pub too_short : Accepted s → length buffer < least → sheet_then ≡ Refuses check least
  unfolding first_refusal
  too_short ok h = further_accepted s (shorter ∷ []) ok ∙ rw (lt-ltb (length buffer) least h)

  -- or neither.
  pub long_enough : Accepted s → least ≤ length buffer → sheet_then ≡ Passes
  unfolding first_refusal
  long_enough ok h = further_accepted s (shorter ∷ []) ok ∙ rw (le-ltb (length buffer) least h)

  -- A refusal's number is at least 1 and not 9, where the check's is.
  pub then_numbered : Number check → Numbered sheet_then
  unfolding first_refusal
  then_numbered n =
      subst Numbered (sym (further s (shorter ∷ [])))
      (either (sheet_verdict s) _ (sheet_numbered s) (either shorter Passes (test (ltb (length buffer) least) check least n) tt))
