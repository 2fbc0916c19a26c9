-- What a service answers, in document 01's numbers.
use Rattle.std.specs.Prelude.{ℕ, List, Result, Ok, Err}
use Rattle.sheet.specs.Verdicts.{Verdict, Passes, Refuses}
use Rattle.sheet.specs.declared.Header.{Header}
use Rattle.sheet.specs.declared.refusal.Refusal.{Refusal}
use Rattle.sheet.specs.Refusals.{check_of, place_of}
use Rattle.sheet.specs.Format.{lowest_lot, lot_count, condition_count, record_count}
use Rattle.sheet.specs.Checks.{sheet_verdict_with}

-- A service refuses, with document 01's number of the check and its place; or it answers, with up to three values, the others 0. A service's contract
-- equates the answer of the case that it returns, so that refusing and answering are told apart, and not by their numbers alone.
pub data Answer : Type 0 where
  refused : ℕ → ℕ → Answer
  answered : ℕ → ℕ → ℕ → Answer

-- An answer with this third value.
abbrev pub with_third : ℕ → Answer → Answer
with_third k (refused check place) = refused check place
with_third k (answered first second third) = answered first second k

-- A verdict's refusal; where it passes, the answer that follows.
abbrev pub answer_of : Verdict → Answer → Answer
answer_of Passes answer = answer
answer_of (Refuses check place) answer = refused check place

-- "the reader then answers n, m and k": where lots count from `lowest`, and as they do.
unfoldable pub read_answer_with : ℕ → List ℕ → Answer
read_answer_with lowest s = answer_of (sheet_verdict_with lowest s) (answered (lot_count s) (condition_count s) (record_count s))

abbrev pub read_answer : List ℕ → Answer
read_answer s = read_answer_with lowest_lot s

-- A result's answer: what is answered of its value, or the refusal in the documents' numbers.
abbrev pub result_answer : {A : Type 0} → (A → Answer) → Result A Refusal → Answer
result_answer f (Ok a) = f a
result_answer f (Err r) = refused (check_of r) (place_of r)

-- The reader's cases.
abbrev pub reading_answer : Result Header Refusal → Answer
reading_answer = result_answer (λ h. answered h.lots h.conditions h.records)
