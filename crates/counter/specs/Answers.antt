-- The cases of a service that counts unmet conditions, in the documents' numbers, and what a count says of meaning.
use Rattle.std.specs.Prelude.{ℕ, ◌≤◌, List, Result, ◌↔◌, ◌≡◌}
use Rattle.sheet.specs.Format.{condition_count}
use Rattle.sheet.specs.declared.refusal.Refusal.{Refusal}
use Rattle.sheet.specs.Answers.{Answer, refused, answered, result_answer}
use Rattle.equality.specs.Evaluator.{evaluate_answer, GroupingMeets}

abbrev pub counting_answer : Result ℕ Refusal → Answer
counting_answer = result_answer (λ count. answered count 0 0)

-- What a count says: it is at most m, and 0 exactly where the evaluator answers 0, which is where the grouping meets the sheet. A refusal is the evaluator's:
-- "with the judge's inputs and checks".
abbrev pub CountMeans : Answer → List ℕ → List ℕ → Type 0
CountMeans (refused check place) s grouping = evaluate_answer s grouping ≡ refused check place
CountMeans (answered count second third) s grouping =
    (count ≤ condition_count s) × (count ≡ 0 ↔ evaluate_answer s grouping ≡ answered 0 0 0) × (count ≡ 0 ↔ GroupingMeets grouping s)
