-- The checks before a search, with a limit or without one: 1 to 7 and 17 on the sheet, then 20, then 8.
use Prim.Native.Nat.{ℕ, ◌≤◌, ◌<◌}
use mathlib.Core.Bool.{true}
use mathlib.Core.List.{List, [], ◌∷◌, ◌++◌}
use mathlib.Core.Path.{◌≡◌, refl, ap, subst, sym, ◌∙◌}
use native.Mathlib.Omega.{arith}
use borrow.Author.Tests.{lt-ltb, le-ltb, ne_eqb}
use lib.Dec.{ltb}
use lib.ListN.{length}
use Rattle.sheet.specs.Verdicts.{Verdict, Passes, Refuses}
use Rattle.sheet.specs.Format.{lot_count}
use Rattle.sheet.specs.Checks.{Accepted, sheet_verdict, or_else, refuses_if, first_refusal}
use Rattle.sheet.proofs.Verdicts.{passes-first_refusal, first_refusal-passes}
use Rattle.sheet.proofs.Further.{further, further_passes, further_accepted}
use Rattle.sheet.proofs.Numbered.{Numbered, either, test, sheet_numbered}
use Rattle.equality.specs.Evaluator.{check8, grouping_verdict, grouping_verdict_with}
use Rattle.limit.specs.Meaning.{Limit, unlimited, up_to, most_limit, ill_limited, check20, limit_checks, Admitted}
use Rattle.refutation.proofs.Smaller.{admitted_first}
use Rattle.outcome.specs.Outcome.{check9, search_verdict, search_outcome, search_outcome_with, ZeroGroup}
use Rattle.outcome.specs.Limited.{verdict_under, check9_under, search_verdict_under, outcome_under, ZeroGroupUnder}

-- ---- without a limit they are document 01's, and so is all that comes of a search

pub unlimited_verdict : (s grouping : List ℕ) → verdict_under unlimited s grouping ≡ grouping_verdict s grouping
unfolding verdict_under grouping_verdict_with
unlimited_verdict s grouping = refl

pub unlimited-searched : (s grouping store : List ℕ) → search_verdict_under unlimited s grouping store ≡ search_verdict s grouping store
unfolding search_verdict_under search_verdict check9_under check9 verdict_under grouping_verdict_with
unlimited-searched s grouping store = refl

pub unlimited-outcome : (s grouping store : List ℕ) → outcome_under unlimited s grouping store ≡ search_outcome s grouping store
unfolding outcome_under search_outcome_with verdict_under grouping_verdict_with
unlimited-outcome s grouping store = refl

pub unlimited_zero : (s grouping : List ℕ) → ZeroGroupUnder unlimited s grouping → ZeroGroup s grouping
unlimited_zero s grouping h = h

-- ---- a limit that 20 admits, and one that it refuses

-- A limit that is refused: 20 is before 8.
pub limit-refused : (g : ℕ) (s grouping : List ℕ) → Accepted s → ill_limited g ≡ true → verdict_under (up_to g) s grouping ≡ Refuses 20 g
unfolding verdict_under first_refusal check20
limit-refused g s grouping ok out = further_accepted s (check20 g ∷ check8 s grouping ∷ []) ok ∙ rw out

pub admitted : (g : ℕ) → 1 ≤ g → g ≤ most_limit → Admitted (up_to g)
unfolding first_refusal check20
admitted g low high = rw (ne_eqb g 0 (λ e. omega arith), le-ltb most_limit g high)

module _ (limit : Limit) (s grouping : List ℕ) where
  -- Where all pass, the sheet is accepted and the limit admitted.
  pub under_passes : verdict_under limit s grouping ≡ Passes → Accepted s × Admitted limit
  unfolding verdict_under
  under_passes e =
      let both = further_passes s (limit_checks limit ++ check8 s grouping ∷ []) e in
      (both.0, go limit both.1)
    where
      go : (l : Limit) → first_refusal (limit_checks l ++ check8 s grouping ∷ []) ≡ Passes → Admitted l
      go unlimited e = unfold first_refusal in refl
      go (up_to g) e = passes-first_refusal (check20 g) [] (first_refusal-passes (check20 g) (check8 s grouping ∷ []) e).0 (unfold first_refusal in refl)

  -- A sheet that is refused;
  pub under_refused : (check place : ℕ) → sheet_verdict s ≡ Refuses check place → verdict_under limit s grouping ≡ Refuses check place
  unfolding verdict_under
  under_refused check place e =
      further s (limit_checks limit ++ check8 s grouping ∷ []) ∙ ap (λ (v : Verdict). or_else v (first_refusal (limit_checks limit ++ check8 s grouping ∷ []))) e

  -- a grouping that is too short;
  pub under_short : Accepted s → Admitted limit → length grouping < lot_count s → verdict_under limit s grouping ≡ Refuses 8 (lot_count s)
  unfolding verdict_under check8 first_refusal
  under_short ok in_range short =
      further_accepted s (limit_checks limit ++ check8 s grouping ∷ []) ok
      ∙ admitted_first limit in_range (check8 s grouping ∷ [])
      ∙ rw (lt-ltb (length grouping) (lot_count s) short)

  -- or none.
  pub under_all : Accepted s → Admitted limit → lot_count s ≤ length grouping → verdict_under limit s grouping ≡ Passes
  unfolding verdict_under check8 first_refusal
  under_all ok in_range long =
      further_accepted s (limit_checks limit ++ check8 s grouping ∷ []) ok
      ∙ admitted_first limit in_range (check8 s grouping ∷ [])
      ∙ rw (le-ltb (length grouping) (lot_count s) long)

  -- A refusal's number is at least 1 and not 9.
  pub under_numbered : Numbered (verdict_under limit s grouping)
  unfolding verdict_under first_refusal check8 check20
  under_numbered =
      subst Numbered (sym (further s (limit_checks limit ++ check8 s grouping ∷ [])))
      (either (sheet_verdict s) (first_refusal (limit_checks limit ++ check8 s grouping ∷ [])) (sheet_numbered s) (rest limit))
    where
      last : Numbered (first_refusal (check8 s grouping ∷ []))
      last =
          either (refuses_if (ltb (length grouping) (lot_count s)) 8 (lot_count s)) Passes
          (test (ltb (length grouping) (lot_count s)) 8 (lot_count s) (omega arith, λ e. omega arith)) tt

      rest : (l : Limit) → Numbered (first_refusal (limit_checks l ++ check8 s grouping ∷ []))
      rest unlimited = last
      rest (up_to g) =
          either (refuses_if (ill_limited g) 20 g) (first_refusal (check8 s grouping ∷ []))
          (test (ill_limited g) 20 g (omega arith, λ e. omega arith)) last
