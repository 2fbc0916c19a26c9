-- What it changes in a merge that only conditions with terms can be left out (document 02, job 6): the merge, beside that of job 4 alone, where any could be.
use Rattle.std.specs.Prelude.{ℕ, zero, suc, ◌+◌, ◌≤◌, ◌<◌, cond, List, ◌↔◌, ◌≢◌, ◌≡◌, eqb, length}
use Rattle.buffers.specs.Written.{written}
use Rattle.sheet.specs.Verdicts.{Refuses}
use Rattle.sheet.specs.Format.{most_conditions, condition_count, head_at}
use Rattle.sheet.specs.Checks.{Accepted}
use Rattle.sheet.specs.Answers.{refused, answered}
use Rattle.repeats.specs.Repeats.{has_terms, any_condition, merged_conditions}
use Rattle.merge.specs.Merge.{merged, merged_length, check18, merge_answer, merge_out}

-- How many struck conditions a sheet holds, those with head zero: of `count` from condition c on, and of all.
unfoldable pub withdrawn_from : List ℕ → ℕ → ℕ → ℕ
withdrawn_from s zero c = 0
withdrawn_from s (suc count) c = cond (eqb (head_at s c) 0) 1 0 + withdrawn_from s count (suc c)

unfoldable pub withdrawn_count : List ℕ → ℕ
withdrawn_count s = withdrawn_from s (condition_count s) 1

-- "two accepted sheets together hold two or more struck conditions and 18 did not already refuse them at the place it gives now"
pub record Changes (s t : List ℕ) : Type 0 where
  pub first : Accepted s
  pub second : Accepted t
  pub two : 2 ≤ withdrawn_count s + withdrawn_count t
  pub newly : (place : ℕ) → check18 has_terms s t ≡ Refuses 18 place → check18 any_condition s t ≢ Refuses 18 place

-- Of two sheets and an output. The sheet that a refusal names (`which_refused`) is asked of the readings alone, and so is as it was.
pub record ChangesExactly (s t out : List ℕ) : Type 0 where
  -- "An answer changes exactly where" this is so: its number, place or length;
  pub exactly : merge_answer has_terms s t out ≢ merge_answer any_condition s t out ↔ Changes s t
  -- "among these the ones that now pass 256 conditions are refused by 18,
  pub above : Changes s t → most_conditions < length (merged_conditions has_terms s t) → merge_answer has_terms s t out ≡ refused 18 2
  -- and the others by 19 where the output is now too short.";
  pub short : Changes s t → length (merged_conditions has_terms s t) ≤ most_conditions → length out < merged_length has_terms s t
      → merge_answer has_terms s t out ≡ refused 19 (merged_length has_terms s t)
  -- where it is long enough, the merged sheet is written.
  pub long : Changes s t → length (merged_conditions has_terms s t) ≤ most_conditions → merged_length has_terms s t ≤ length out
      → (merge_answer has_terms s t out ≡ answered (merged_length has_terms s t) 0 0) × (merge_out has_terms s t out ≡ written (merged has_terms s t) out)
  -- Elsewhere the answer is what it was, and every byte of the output.
  pub elsewhere : ¬ Changes s t
      → (merge_answer has_terms s t out ≡ merge_answer any_condition s t out) × (merge_out has_terms s t out ≡ merge_out any_condition s t out)
