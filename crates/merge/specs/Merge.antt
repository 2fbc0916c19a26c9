-- One sheet of two (document 02, job 4).
use Rattle.std.specs.Prelude.{ℕ, max, Bool, ltb, length}
use mathlib.Core.List.{List, [], ◌∷◌, ◌++◌, flatten}
use Rattle.sheet.specs.Verdicts.{Verdict, Passes, Refuses}
use Rattle.sheet.specs.Format.{lowest_lot, most_conditions, most_records, lot_count}
use Rattle.sheet.specs.Checks.{or_else, refuses_if, first_refusal, sheet_checks_with, sheet_verdict_with}
use Rattle.sheet.specs.Conditions.{Term}
use Rattle.sheet.specs.Answers.{Answer, answered, answer_of}
use Rattle.canonical.specs.Canonical.{canonical, canonical_length}
use Rattle.writer.specs.Answers.{output_after}
use Rattle.repeats.specs.Repeats.{merged_conditions}

-- "lots are the larger n"
abbrev pub merged_lots : List ℕ → List ℕ → ℕ
merged_lots s t = max (lot_count s) (lot_count t)

-- "The first sheet is checked before the second, and a refusal from reading says which it was": 1 or 2, and 0 where both are accepted.
abbrev pub which_of : Verdict → Verdict → ℕ
which_of (Refuses check place) second = 1
which_of Passes (Refuses check place) = 2
which_of Passes Passes = 0

-- Of two sheets: where lots count from `lowest`, and as they do.
unfoldable pub which_refused_with : ℕ → List ℕ → List ℕ → ℕ
which_refused_with lowest s t = which_of (sheet_verdict_with lowest s) (sheet_verdict_with lowest t)

abbrev pub which_refused : List ℕ → List ℕ → ℕ
which_refused s t = which_refused_with lowest_lot s t

module _ (may_leave_out : List Term → Bool) (s t : List ℕ) where
  -- "The result is packed."
  abbrev pub merged : List ℕ
  merged = canonical (merged_lots s t) (merged_conditions may_leave_out s t)

  -- "the length needed"
  abbrev pub merged_length : ℕ
  merged_length = canonical_length (merged_conditions may_leave_out s t)

  -- "18, merged m, then k, above its most (place 2 or 3)"
  unfoldable pub check18 : Verdict
  check18 =
      or_else (refuses_if (ltb most_conditions (length (merged_conditions may_leave_out s t))) 18 2)
      (refuses_if (ltb most_records (length (flatten (merged_conditions may_leave_out s t)))) 18 3)

  -- "19, output too short (place the length needed)"
  unfoldable pub check19 : List ℕ → Verdict
  check19 out = refuses_if (ltb (length out) merged_length) 19 merged_length

module _ (lowest : ℕ) (may_leave_out : List Term → Bool) (s t out : List ℕ) where
  -- "The first sheet is checked before the second"; 18 and 19 "both after the two readings": where lots count from `lowest`.
  unfoldable pub merge_verdict_with : Verdict
  merge_verdict_with =
      first_refusal (sheet_checks_with lowest s ++ (sheet_checks_with lowest t ++ check18 may_leave_out s t ∷ check19 may_leave_out s t out ∷ []))

  -- "each answers the length it wrote"
  unfoldable pub merge_answer_with : Answer
  merge_answer_with = answer_of merge_verdict_with (answered (merged_length may_leave_out s t) 0 0)

  -- The output afterwards: on a refusal "nothing written".
  unfoldable pub merge_out_with : List ℕ
  merge_out_with = output_after merge_answer_with (merged may_leave_out s t) out

-- As lots do count.
abbrev pub merge_verdict : (List Term → Bool) → List ℕ → List ℕ → List ℕ → Verdict
merge_verdict may_leave_out s t out = merge_verdict_with lowest_lot may_leave_out s t out

abbrev pub merge_answer : (List Term → Bool) → List ℕ → List ℕ → List ℕ → Answer
merge_answer may_leave_out s t out = merge_answer_with lowest_lot may_leave_out s t out

abbrev pub merge_out : (List Term → Bool) → List ℕ → List ℕ → List ℕ → List ℕ
merge_out may_leave_out s t out = merge_out_with lowest_lot may_leave_out s t out
