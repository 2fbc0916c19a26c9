-- What repacking promises of the sheet that it writes.
use Rattle.std.specs.Prelude.{ℕ, List, ◌≡◌}
use Rattle.sheet.specs.Format.{lowest_lot, lot_count, record_count, filled_count}
use Rattle.sheet.specs.Checks.{Accepted}
use Rattle.sheet.specs.Conditions.{conditions}
use Rattle.sheet.specs.Answers.{with_third, read_answer}
use Rattle.equality.specs.Evaluator.{evaluate_answer}
use Rattle.reassignment.specs.Count.{count_answer}
use Rattle.reassignment.specs.Reassign.{reassign_answer, reassign_grouping}
use Rattle.limit.specs.Meaning.{Limit}
use Rattle.refutation.specs.Refutation.{check_answer, check_answer_under}
use Rattle.outcome.specs.Outcome.{search_outcome}
use Rattle.outcome.specs.Limited.{outcome_under}

-- Two sheets say the same: both are accepted, with "equal lots and equal condition lists".
pub record Alike (s t : List ℕ) : Type 0 where
  pub first : Accepted s
  pub second : Accepted t
  pub lots : lot_count s ≡ lot_count t
  pub lists : conditions s ≡ conditions t

-- Reader, search with both its buffers, refutation checker, both with a limit and without one, evaluator, count of unmet conditions and reassignment with its
-- grouping answer two sheets alike, whatever else they are given; but for k, which the reader answers third: "k, read or printed, still counts" vacant records
-- (document 02), and one sheet may have more of them. They have as many others.
pub record ServedAlike (s t : List ℕ) : Type 0 where
  pub reads : read_answer s ≡ with_third (record_count s) (read_answer t)
  pub filled : filled_count s ≡ filled_count t
  pub searches : (grouping store : List ℕ) → search_outcome s grouping store ≡ search_outcome t grouping store
  pub checks : (list : List ℕ) → check_answer s list ≡ check_answer t list
  pub searches_under : (limit : Limit) (grouping store : List ℕ) → outcome_under limit s grouping store ≡ outcome_under limit t grouping store
  pub checks_under : (limit : Limit) (list : List ℕ) → check_answer_under limit lowest_lot s list ≡ check_answer_under limit lowest_lot t list
  pub evaluates : (grouping : List ℕ) → evaluate_answer s grouping ≡ evaluate_answer t grouping
  pub counts : (grouping : List ℕ) → count_answer s grouping ≡ count_answer t grouping
  pub reassigns : (grouping : List ℕ) (count lot value : ℕ)
      → (reassign_answer s grouping count lot value ≡ reassign_answer t grouping count lot value)
      × (reassign_grouping s grouping count lot value ≡ reassign_grouping t grouping count lot value)
