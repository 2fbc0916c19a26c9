-- "Sheets that never name the hold, with lists that don't, get the answers they had." (document 02, job 5)
use Rattle.std.specs.Prelude.{ℕ, ◌≤◌, Bool, false, List, ◌≢◌, ◌≡◌, take}
use Rattle.buffers.specs.Lists.{All}
use Rattle.sheet.specs.Format.{record_count, first_lot_at, second_lot_at, vacant}
use Rattle.sheet.specs.Conditions.{Term}
use Rattle.sheet.specs.Answers.{read_answer, read_answer_with}
use Rattle.equality.specs.Evaluator.{evaluate_answer, evaluate_answer_with}
use Rattle.store.specs.Records.{NodeRecord, split_record, ground_record, met_record, clique_record, no_record, records_of}
use Rattle.refutation.specs.Refutation.{check_answer, check_answer_with}
use Rattle.outcome.specs.Outcome.{search_outcome, search_outcome_with}
use Rattle.repack.specs.Repack.{repack_answer, repack_answer_with, repack_out, repack_out_with}
use Rattle.text.specs.Program.{most_input, printed, printed_with}
use Rattle.merge.specs.Merge.{which_refused, which_refused_with, merge_answer, merge_answer_with, merge_out, merge_out_with}

-- ---- what never names lot 0 (document 02: the hold)

-- A lot that isn't lot 0.
abbrev pub NotZero : ℕ → Type 0
NotZero lot = lot ≢ 0

-- "Sheets that never name the hold": no record of the sheet does, of those that aren't vacant. A vacant record has no term, and names nothing.
abbrev pub SheetNeverNames : List ℕ → Type 0
SheetNeverNames s = (r : ℕ) → 1 ≤ r → r ≤ record_count s → vacant s r ≡ false → NotZero (first_lot_at s r) × NotZero (second_lot_at s r)

-- "with lists that don't": of a list's records the splits alone name lots.
abbrev pub RecordNeverNames : NodeRecord → Type 0
RecordNeverNames (split_record a b next) = NotZero a × NotZero b
RecordNeverNames (ground_record c) = Unit {0}
RecordNeverNames met_record = Unit {0}
RecordNeverNames clique_record = Unit {0}
RecordNeverNames no_record = Unit {0}

abbrev pub ListNeverNames : List ℕ → Type 0
ListNeverNames list = All RecordNeverNames (records_of list)

-- ---- the answers that a sheet had

-- Those by the same definitions with 1 for the lowest lot. In the evaluator lot 0 has any number, whatever it was: no term named it.
pub record AnsweredAsBefore (s : List ℕ) : Type 0 where
  pub reads : read_answer_with 1 s ≡ read_answer s
  -- The answer and both buffers.
  pub searches : (grouping store : List ℕ) → search_outcome_with 1 s grouping store ≡ search_outcome s grouping store
  pub checks : (list : List ℕ) → ListNeverNames list → check_answer_with 1 s list ≡ check_answer s list
  pub evaluates : (zero_number : ℕ) (grouping : List ℕ) → evaluate_answer_with 1 zero_number s grouping ≡ evaluate_answer s grouping
  pub repacks : (out : List ℕ) → repack_answer_with 1 s out ≡ repack_answer s out
  pub packed : (out : List ℕ) → repack_out_with 1 s out ≡ repack_out s out

-- Two such sheets are merged as they were, whichever conditions may be left out.
pub record MergedAsBefore (s t : List ℕ) : Type 0 where
  pub sheets : which_refused_with 1 s t ≡ which_refused s t
  pub merges : (may_leave_out : List Term → Bool) (out : List ℕ) → merge_answer_with 1 may_leave_out s t out ≡ merge_answer may_leave_out s t out
  pub outputs : (may_leave_out : List Term → Bool) (out : List ℕ) → merge_out_with 1 may_leave_out s t out ≡ merge_out may_leave_out s t out

-- ---- the sentence

-- "Sheets that never name the hold, with lists that don't, get the answers they had.": one sheet, two to be merged, and an input of which the program reads a
-- sheet.
pub record AnswersTheyHad : Type 0 where
  pub one : (s : List ℕ) → SheetNeverNames s → AnsweredAsBefore s
  pub two : (s t : List ℕ) → SheetNeverNames s → SheetNeverNames t → MergedAsBefore s t
  pub prints : (input : List ℕ) → SheetNeverNames (take most_input input) → printed_with 1 input ≡ printed input
