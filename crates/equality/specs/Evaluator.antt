-- The evaluator (document 01, "The grouping judge"; document 02, job 5).
use Rattle.std.specs.Prelude.{ℕ, zero, suc, cond, List, [], ◌∷◌, ◌++◌, ltb, length, get_or}
use Rattle.sheet.specs.Verdicts.{Verdict}
use Rattle.sheet.specs.Format.{lowest_lot, lot_count}
use Rattle.sheet.specs.Conditions.{Term, conditions}
use Rattle.sheet.specs.Checks.{refuses_if, first_refusal, sheet_checks_with}
use Rattle.sheet.specs.Answers.{Answer, answered, answer_of}
use Rattle.equality.specs.Meaning.{Meets, meets_condition}

-- "grouping (search, judge) | 8 | shorter than n | n"
unfoldable pub check8 : List ℕ → List ℕ → Verdict
check8 s grouping = refuses_if (ltb (length grouping) (lot_count s)) 8 (lot_count s)

-- The first of the checks that a call with a grouping can fail before anything is tried: where lots count from `lowest`, and as they do.
unfoldable pub grouping_verdict_with : ℕ → List ℕ → List ℕ → Verdict
grouping_verdict_with lowest s grouping = first_refusal (sheet_checks_with lowest s ++ check8 s grouping ∷ [])

abbrev pub grouping_verdict : List ℕ → List ℕ → Verdict
grouping_verdict s grouping = grouping_verdict_with lowest_lot s grouping

-- "values 0 to 255, lot i having byte i − 1 as its number": a lot's number in a grouping, where lot 0 has the number `zero_number`;
abbrev pub number_with : ℕ → List ℕ → ℕ → ℕ
number_with zero_number grouping zero = zero_number
number_with zero_number grouping (suc i) = get_or grouping i 0

-- and as it is: of lot 0, "its number is 0 in every numbering and in the judge" (document 02).
abbrev pub number_in : List ℕ → ℕ → ℕ
number_in grouping lot = number_with 0 grouping lot

-- "A grouping meets a sheet when the numbers that the judge reads from it do."
abbrev pub GroupingMeets : List ℕ → List ℕ → Type 0
GroupingMeets grouping s = Meets (number_in grouping) s

-- "0 if all conditions are met, else the lowest condition that isn't": of the conditions from c on.
unfoldable pub lowest_unmet : (ℕ → ℕ) → ℕ → List (List Term) → ℕ
lowest_unmet f c [] = 0
lowest_unmet f c (ts ∷ tss) = cond (meets_condition f ts) (lowest_unmet f (suc c) tss) c

-- The evaluator's answer, from a sheet's bytes and a grouping: where lots count from `lowest` and lot 0 has the number `zero_number`, and as it is.
unfoldable pub evaluate_answer_with : ℕ → ℕ → List ℕ → List ℕ → Answer
evaluate_answer_with lowest zero_number s grouping =
    answer_of (grouping_verdict_with lowest s grouping)
    (answered (lowest_unmet (number_with zero_number grouping) 1 (conditions s)) 0 0)

abbrev pub evaluate_answer : List ℕ → List ℕ → Answer
evaluate_answer s grouping = evaluate_answer_with lowest_lot 0 s grouping
