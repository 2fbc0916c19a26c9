-- The evaluator's cases, in document 01's numbers, and what those say of meaning.
use Rattle.std.specs.Prelude.{ℕ, zero, suc, ◌≤◌, ◌<◌, List, Option, None, Some, Result, Ok, Err}
use Rattle.sheet.specs.declared.Condition.{Condition}
use Rattle.sheet.specs.declared.refusal.Refusal.{Refusal}
use Rattle.sheet.specs.Refusals.{refusal_at}
use Rattle.sheet.specs.Verdicts.{Verdict, Passes, Refuses}
use Rattle.sheet.specs.Format.{condition_count}
use Rattle.sheet.specs.Conditions.{condition_at, conditions}
use Rattle.sheet.specs.Answers.{Answer, refused, answered, result_answer}
use Rattle.equality.specs.Meaning.{MeetsCondition}
use Rattle.equality.specs.Evaluator.{grouping_verdict, number_in, lowest_unmet, GroupingMeets}

-- "It answers 0 if all conditions are met, else the lowest condition that isn't."
abbrev pub unmet_answer : Option Condition → Answer
unmet_answer None = answered 0 0 0
unmet_answer (Some condition) = answered condition.0 0 0

abbrev pub evaluation_answer : Result (Option Condition) Refusal → Answer
evaluation_answer = result_answer unmet_answer

-- ---- the case

-- The case for "0 if all conditions are met, else the lowest condition that isn't".
abbrev pub unmet_or : ℕ → Option Condition
unmet_or zero = None
unmet_or (suc c) = Some (record { 0 = suc c })

-- The case of a verdict and, where that passes, of such a number. By document 01's numbers alone none and a condition 0 would be one answer; the case
-- tells them apart.
abbrev pub case_of : Verdict → ℕ → Result (Option Condition) Refusal
case_of Passes unmet = Ok (unmet_or unmet)
case_of (Refuses check place) unmet = Err (refusal_at check place)

-- The evaluator's case, from a sheet's bytes and a grouping.
unfoldable pub evaluate_case : List ℕ → List ℕ → Result (Option Condition) Refusal
evaluate_case s grouping = case_of (grouping_verdict s grouping) (lowest_unmet (number_in grouping) 1 (conditions s))

-- ---- meaning

-- What an answer says of meaning: 0, and the grouping meets the sheet; or a condition, which is one of the sheet's, isn't met, and every lower one is.
abbrev pub Evaluated : Answer → List ℕ → List ℕ → Type 0
Evaluated (refused check place) s grouping = Unit {0}
Evaluated (answered zero second third) s grouping = GroupingMeets grouping s
Evaluated (answered (suc c) second third) s grouping =
    (suc c ≤ condition_count s)
    × (¬ MeetsCondition (number_in grouping) (condition_at s (suc c)))
    × ((d : ℕ) → 1 ≤ d → d < suc c → MeetsCondition (number_in grouping) (condition_at s d))
