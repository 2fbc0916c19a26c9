-- What 18 says of two accepted sheets, and what their merge answers, case by case, for every rule of which conditions may be left out.
use Prim.Native.Nat.{ℕ, ◌≤◌, ◌<◌}
use mathlib.Core.Bool.{Bool, true, false}
use mathlib.Core.List.{List, flatten}
use mathlib.Core.Path.{◌≡◌, refl, sym, subst, ◌∙◌}
use borrow.Author.Tests.{ltb-true, ltb-false, lt-ltb, le-ltb}
use lib.Dec.{ltb}
use lib.ListN.{length}
use Rattle.sheet.specs.Verdicts.{Verdict, Passes, Refuses}
use Rattle.sheet.specs.Format.{most_conditions, most_records}
use Rattle.sheet.specs.Checks.{Accepted, or_else, refuses_if, first_refusal}
use Rattle.sheet.specs.Conditions.{Term}
use Rattle.sheet.specs.Answers.{Answer, refused, answered}
use Rattle.repeats.specs.Repeats.{merged_conditions}
use Rattle.merge.specs.Merge.{merged_length, check18, merge_answer, merge_verdict}
use Rattle.merge.proofs.Answering.{answer_by, answer_by_lem, both-accepted, many_conditions, many_terms, output_short, all_pass}

module _ (may_leave_out : List Term → Bool) (s t out : List ℕ) where
  abbrev result : List (List Term)
  result = merged_conditions may_leave_out s t

  abbrev needed : ℕ
  needed = merged_length may_leave_out s t

  pub data Case : Verdict → Answer → Type 0 where
    above : most_conditions < length result → Case (Refuses 18 2) (refused 18 2)
    terms-above : length result ≤ most_conditions → most_records < length (flatten result) → Case (Refuses 18 3) (refused 18 3)
    short : length result ≤ most_conditions → length (flatten result) ≤ most_records → length out < needed → Case Passes (refused 19 needed)
    long : length result ≤ most_conditions → length (flatten result) ≤ most_records → needed ≤ length out → Case Passes (answered needed 0 0)

  pub case : Accepted s → Accepted t → Case (check18 may_leave_out s t) (merge_answer may_leave_out s t out)
  unfolding check18
  case ok ok' = go (ltb most_conditions (length result)) (ltb most_records (length (flatten result))) (ltb (length out) needed) refl refl refl
    where
      -- The verdict decides.
      by : {check : Verdict} (v : Verdict) → merge_verdict may_leave_out s t out ≡ v → Case check (answer_by may_leave_out s t v) → Case check (merge_answer may_leave_out s t out)
      by {check} v e this = subst (Case check) (sym (answer_by_lem may_leave_out s t out v e)) this

      go : (p q r : Bool) → ltb most_conditions (length result) ≡ p → ltb most_records (length (flatten result)) ≡ q → ltb (length out) needed ≡ r
          → Case (or_else (refuses_if p 18 2) (refuses_if q 18 3)) (merge_answer may_leave_out s t out)
      go true q r e f g =
          let many = ltb-true _ _ e in
          by (Refuses 18 2) (many_conditions may_leave_out s t out ok ok' many) (above many)
      go false true r e f g =
          let few = ltb-false _ _ e in
          let many = ltb-true _ _ f in
          by (Refuses 18 3) (many_terms may_leave_out s t out ok ok' few many) (terms-above few many)
      go false false true e f g =
          let few = ltb-false _ _ e in
          let fewer = ltb-false _ _ f in
          let less = ltb-true _ _ g in
          by (Refuses 19 needed) (output_short may_leave_out s t out ok ok' few fewer less) (short few fewer less)
      go false false false e f g =
          let few = ltb-false _ _ e in
          let fewer = ltb-false _ _ f in
          let enough = ltb-false _ _ g in
          by Passes (all_pass may_leave_out s t out ok ok' few fewer enough) (long few fewer enough)

  -- What 18 refuses is answered so.
  pub refused_18 : Accepted s → Accepted t → (place : ℕ) → check18 may_leave_out s t ≡ Refuses 18 place → merge_answer may_leave_out s t out ≡ refused 18 place
  unfolding first_refusal
  refused_18 ok ok' place e = answer_by_lem may_leave_out s t out (Refuses 18 place) (both-accepted may_leave_out s t out ok ok' ∙ rw e)

  -- It refuses the terms where they are too many and the conditions are not.
  pub refuses_terms : length result ≤ most_conditions → most_records < length (flatten result) → check18 may_leave_out s t ≡ Refuses 18 3
  unfolding check18
  refuses_terms few many = rw (le-ltb most_conditions (length result) few, lt-ltb most_records (length (flatten result)) many)
