-- "Sheets that never name the hold, with lists that don't, get the answers they had." (document 02, job 5): the theorem.
use Prim.Native.Nat.{ℕ, zero, suc}
use mathlib.Core.Bool.{Bool}
use mathlib.Core.List.{List, [], ◌∷◌}
use mathlib.Core.Path.{◌≡◌, refl, ap}
use lib.ListN.{take}
use Rattle.buffers.specs.Lists.{All}
use Rattle.sheet.specs.Verdicts.{Verdict, Passes, Refuses}
use Rattle.sheet.specs.Checks.{Accepted, sheet_verdict_with}
use Rattle.sheet.specs.Conditions.{Term, BothLots, conditions}
use Rattle.sheet.specs.Answers.{answered, answer_of, read_answer, read_answer_with}
use Rattle.sheet.proofs.Conditions.{both-lots, conditions-each}
use Rattle.sheet.proofs.Further.{further_passes}
use Rattle.equality.specs.Evaluator.{check8, grouping_verdict, grouping_verdict_with, number_with, number_in, lowest_unmet, evaluate_answer, evaluate_answer_with}
use Rattle.equality.proofs.Agree.{lowest_agrees}
use Rattle.store.specs.Records.{records_of}
use Rattle.limit.specs.Meaning.{unlimited}
use Rattle.refutation.specs.Refutation.{walk_verdict, list_verdict_under, check_answer, check_answer_with, check_answer_under}
use Rattle.outcome.specs.Outcome.{search_outcome, search_outcome_with}
use Rattle.repack.specs.Repack.{repack_verdict_with, repack_answer, repack_answer_with, repack_out, repack_out_with}
use Rattle.text.specs.Program.{most_input, printed, printed_with}
use Rattle.merge.specs.Merge.{which_refused, which_refused_with, merge_verdict_with, merge_answer, merge_answer_with, merge_out, merge_out_with}
use Rattle.zero_lot.specs.Unnamed.{NotZero, SheetNeverNames, ListNeverNames, AnsweredAsBefore, MergedAsBefore, AnswersTheyHad}
use Rattle.zero_lot.proofs.Alike.{checks_alike, walk_alike}

-- A lot that isn't lot 0 has its number whichever lot 0 has.
same_number : (zero_number : ℕ) (grouping : List ℕ) (lot : ℕ) → NotZero lot → number_with zero_number grouping lot ≡ number_in grouping lot
same_number zero_number grouping zero other = absurd (other refl)
same_number zero_number grouping (suc i) other = refl

-- ---- the terms of an accepted sheet

conditions_never : (s : List ℕ) → SheetNeverNames s → Accepted s → All (All (BothLots NotZero)) (conditions s)
conditions_never s never ok =
    conditions-each s ok (BothLots NotZero) (λ r low on. let (first, second) = never r low on.within (on.filled low) in both-lots NotZero s r first second)

-- ---- one sheet

module _ (s : List ℕ) (never : SheetNeverNames s) where
  reading : read_answer_with 1 s ≡ read_answer s
  unfolding read_answer_with sheet_verdict_with
  reading = rw (checks_alike s never)

  grouping_alike : (grouping : List ℕ) → grouping_verdict_with 1 s grouping ≡ grouping_verdict s grouping
  unfolding grouping_verdict_with
  grouping_alike grouping = rw (checks_alike s never)

  searching : (grouping store : List ℕ) → search_outcome_with 1 s grouping store ≡ search_outcome s grouping store
  unfolding search_outcome_with
  searching grouping store = rw (grouping_alike grouping)

  checking : (list : List ℕ) → ListNeverNames list → check_answer_with 1 s list ≡ check_answer s list
  unfolding check_answer_under list_verdict_under walk_verdict
  checking list unnamed = rw (checks_alike s never, walk_alike unlimited s (records_of list) unnamed)

  -- The evaluator reads the terms of accepted sheets alone.
  evaluating : (zero_number : ℕ) (grouping : List ℕ) → evaluate_answer_with 1 zero_number s grouping ≡ evaluate_answer s grouping
  unfolding evaluate_answer_with grouping_verdict_with
  evaluating zero_number grouping = rw (grouping_alike grouping) (go (grouping_verdict s grouping) refl)
    where
      unmet : (ℕ → ℕ) → ℕ
      unmet f = lowest_unmet f 1 (conditions s)

      go : (v : Verdict) → grouping_verdict s grouping ≡ v
          → answer_of v (answered (unmet (number_with zero_number grouping)) 0 0) ≡ answer_of v (answered (unmet (number_in grouping)) 0 0)
      go (Refuses check place) e = refl
      go Passes e =
          ap (λ (c : ℕ). answered c 0 0)
          (lowest_agrees NotZero (number_with zero_number grouping) (number_in grouping) (same_number zero_number grouping) 1 (conditions s)
          (conditions_never s never (further_passes s (check8 s grouping ∷ []) e).0))

  repacking : (out : List ℕ) → repack_answer_with 1 s out ≡ repack_answer s out
  unfolding repack_answer_with repack_verdict_with
  repacking out = rw (checks_alike s never)

  packing : (out : List ℕ) → repack_out_with 1 s out ≡ repack_out s out
  unfolding repack_out_with
  packing out = rw (repacking out)

  answered_as_before : AnsweredAsBefore s
  answered_as_before =
      record {
        reads = reading;
        searches = searching;
        checks = checking;
        evaluates = evaluating;
        repacks = repacking;
        packed = packing;
      }

-- ---- two sheets

module _ (s t : List ℕ) (never : SheetNeverNames s) (never' : SheetNeverNames t) where
  which : which_refused_with 1 s t ≡ which_refused s t
  unfolding which_refused_with sheet_verdict_with
  which = rw (checks_alike s never, checks_alike t never')

  merging : (may_leave_out : List Term → Bool) (out : List ℕ) → merge_answer_with 1 may_leave_out s t out ≡ merge_answer may_leave_out s t out
  unfolding merge_answer_with merge_verdict_with
  merging may_leave_out out = rw (checks_alike s never, checks_alike t never')

  output : (may_leave_out : List Term → Bool) (out : List ℕ) → merge_out_with 1 may_leave_out s t out ≡ merge_out may_leave_out s t out
  unfolding merge_out_with
  output may_leave_out out = rw (merging may_leave_out out)

  merged_as_before : MergedAsBefore s t
  merged_as_before = record { sheets = which; merges = merging; outputs = output }

-- ---- the sentence

printing : (input : List ℕ) → SheetNeverNames (take most_input input) → printed_with 1 input ≡ printed input
unfolding printed_with sheet_verdict_with
printing input never = rw (checks_alike (take most_input input) never)

pub answers_they_had : AnswersTheyHad
answers_they_had = record { one = answered_as_before; two = merged_as_before; prints = printing }
