-- The count of unmet conditions (document 02, job 8).
use Rattle.std.specs.Prelude.{ℕ, ◌+◌, cond, List, [], ◌∷◌}
use Rattle.sheet.specs.Conditions.{Term, conditions}
use Rattle.sheet.specs.Answers.{Answer, answered, answer_of}
use Rattle.equality.specs.Meaning.{meets_condition}
use Rattle.equality.specs.Evaluator.{grouping_verdict, number_in}

-- "the count of unmet conditions": each that an assignment doesn't meet counts one.
abbrev pub unmet_one : (ℕ → ℕ) → List Term → ℕ
unmet_one f ts = cond (meets_condition f ts) 0 1

unfoldable pub unmet_count : (ℕ → ℕ) → List (List Term) → ℕ
unmet_count f [] = 0
unmet_count f (ts ∷ tss) = unmet_one f ts + unmet_count f tss

-- "A counting service, with the judge's inputs and checks, gives the first one.": its answer, from a sheet's bytes and a grouping.
unfoldable pub count_answer : List ℕ → List ℕ → Answer
count_answer s grouping = answer_of (grouping_verdict s grouping) (answered (unmet_count (number_in grouping) (conditions s)) 0 0)
