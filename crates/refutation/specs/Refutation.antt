-- The walk over a list of records from any hand (document 01, "Grounds from any hand", and checks 10 to 15 of its table), with a limit on the classes or
-- without one (document 02, job 7).
use Rattle.std.specs.Prelude.{ℕ, suc, ◌-◌, ◌/◌, ◌%◌, Bool, true, false, not, ◌&&◌, ◌||◌, List, [], ◌∷◌, ◌++◌, map, ◌≡◌, leb, ltb, eqb, length, get_or}
use Rattle.sheet.specs.Verdicts.{Verdict, Passes, Refuses}
use Rattle.sheet.specs.Format.{lowest_lot, lot_count, condition_count}
use Rattle.sheet.specs.Conditions.{Term, same, apart, conditions}
use Rattle.sheet.specs.Checks.{or_else, refuses_if, first_refusal, sheet_checks_with, lot_in_range}
use Rattle.sheet.specs.Answers.{Answer, answered, answer_of}
use Rattle.equality.specs.Meaning.{some_term}
use Rattle.equality.specs.Node.{Decisions, Value, is_true, is_false, is_open, value}
use Rattle.limit.specs.Meaning.{Limit, unlimited, up_to, limit_checks}
use Rattle.limit.specs.Rule.{clique_passes}
use Rattle.store.specs.Records.{NodeRecord, split_record, ground_record, met_record, clique_record, no_record, record_length, most_nodes, records_of}

-- "same, a split | 15 | 1,024 splits stand above it | record": the most splits above a record. With a limit "its depth check 15 then stands at 8,256 splits"
-- (document 02).
abbrev pub most_splits : Limit → ℕ
most_splits unlimited = 1024
most_splits (up_to g) = 8256

-- "The splits above a record are kept with the branch taken at each.": a split's record number, its next, and the decision of the branch
-- taken, "same" or "apart". The nearest split comes first.
pub record Split : Type 0 where
  pub number : ℕ
  pub next : ℕ
  pub decision : Term

-- The decisions on the way to a record.
abbrev pub decisions_of : List Split → Decisions
decisions_of above = map (λ (split : Split). split.decision) above

-- ---- a ground

abbrev pub not_false : Value → Bool
not_false is_true = true
not_false is_false = false
not_false is_open = true

-- "same, a ground | 12 | a term isn't false | record". "A ground passes when every term of its condition is false by the node rules under that
-- path." Of a withdrawn condition, "a ground naming it is refused by 12" (document 02).
unfoldable pub ground_fails : Decisions → List Term → Bool
ground_fails ds ts = some_term (λ t. not_false (value ds t)) ts

-- ---- after a ground

-- "the nearest split above it still in its equal branch", on lots a and b, and the splits above that one; those nearer are over.
pub data Nearest : Type 0 where
  no_split : Nearest
  same_split : Split → ℕ → ℕ → List Split → Nearest

abbrev pub nearest_of : Split → Term → List Split → Nearest → Nearest
nearest_of split (same a b) above further = same_split split a b above
nearest_of split (apart a b) above further = further

unfoldable pub nearest : List Split → Nearest
nearest [] = no_split
nearest (split ∷ above) = nearest_of split split.decision above (nearest above)

-- The split, in its different branch.
abbrev pub turned : Split → ℕ → ℕ → Split
turned split a b = record { number = split.number; next = split.next; decision = apart a b }

-- "With no such split the list must end.": `rest` is what follows. "after a split, or after 13 | 14 | a record is left over, or the next one is
-- missing | that record's number": here one is left over.
abbrev pub must_end : List NodeRecord → ℕ → Verdict
must_end [] following = Passes
must_end (r ∷ rest) following = Refuses 14 following

-- "After a ground, the nearest split above it still in its equal branch must have next equal to the following record, and its different branch
-- begins." "after a ground | 13 | the split's next is wrong | the split". `walk_rest` is the walk of what follows the ground, from a record's
-- number and the splits above it: the recursive call, which has to be on the rest of the list.
abbrev pub after_ground : (ℕ → List Split → Verdict) → List NodeRecord → ℕ → Nearest → Verdict
after_ground walk_rest rest following no_split = must_end rest following
after_ground walk_rest rest following (same_split split a b above) =
    or_else (refuses_if (not (eqb split.next following)) 13 split.number) (walk_rest following (turned split a b ∷ above))

-- ---- the walk

module _ (s : List ℕ) where
  -- The terms of the condition that a ground names.
  abbrev pub named : ℕ → List Term
  named c = get_or (conditions s) (c - 1) []

  abbrev pub condition_in_range : ℕ → Bool
  condition_in_range c = leb 1 c && leb c (condition_count s)

-- Of a clique under a limit: "passes a crowd exactly when .. and otherwise says 12", "the walk goes on as after a ground" (document 02, job 7).
-- Without a limit its kind is out of range.
abbrev pub walk_clique : Limit → ℕ → (ℕ → List Split → Verdict) → List NodeRecord → ℕ → List Split → Verdict
walk_clique unlimited n walk_rest rest at above = Refuses 11 at
walk_clique (up_to g) n walk_rest rest at above =
    or_else (refuses_if (not (clique_passes g n (decisions_of above))) 12 at) (after_ground walk_rest rest (suc at) (nearest above))

module _ (limit : Limit) (lowest : ℕ) (s : List ℕ) where
  -- One record, of number `at`, below the splits `above`; `rest` is what follows it. "each record, in turn | 11 | kind, spare, lot or condition out
  -- of range; second or next of a ground not 0 | record": bytes of which one has to be 0 and isn't are decoded as no record, also of a clique:
  -- "kind 4, other fields 0 (else 11)". "kinds 1 and 2 only", and kind 4 under a limit: a met record is out of range too. "Splits may name any two lots, also a
  -- pair already decided or a lot twice.", from `lowest` on: "Checks 5 and 11 admit lot 0" (document 02), in a split's two fields, and no condition 0.
  abbrev pub walk_record : (ℕ → List Split → Verdict) → List NodeRecord → ℕ → List Split → NodeRecord → Verdict
  walk_record walk_rest rest at above (split_record a b next) =
      or_else (refuses_if (not (lot_in_range lowest (lot_count s) a && lot_in_range lowest (lot_count s) b)) 11 at)
      (or_else (refuses_if (leb (most_splits limit) (length above)) 15 at)
      (walk_rest (suc at) (record { number = at; next = next; decision = same a b } ∷ above)))
  walk_record walk_rest rest at above (ground_record c) =
      or_else (refuses_if (not (condition_in_range s c)) 11 at)
      (or_else (refuses_if (ground_fails (decisions_of above) (named s c)) 12 at)
      (after_ground walk_rest rest (suc at) (nearest above)))
  walk_record walk_rest rest at above met_record = Refuses 11 at
  walk_record walk_rest rest at above clique_record = walk_clique limit (lot_count s) walk_rest rest at above
  walk_record walk_rest rest at above no_record = Refuses 11 at

  -- The walk from record `at` on, which is the first of `list`. Where a record is due and the list is over, "the next one is missing": 14.
  unfoldable pub walk_from : List NodeRecord → ℕ → List Split → Verdict
  walk_from [] at above = Refuses 14 at
  walk_from (r ∷ rest) at above = walk_record (walk_from rest) rest at above r

-- ---- a list of bytes

-- "list (checker) | 10 | length 0, no multiple of 8, or above 65,535 records | 0"
unfoldable pub check10 : List ℕ → Verdict
check10 list =
    refuses_if (eqb (length list) 0 || not (eqb (length list % record_length) 0) || ltb most_nodes (length list / record_length)) 10 0

-- The walk, "from record 1".
unfoldable pub walk_verdict : Limit → ℕ → List ℕ → List ℕ → Verdict
walk_verdict limit lowest s list = walk_from limit lowest s (records_of list) 1 []

-- The first check of the table that a sheet, a limit and a list fail, where lots count from `lowest`: 20, if there is a limit, is "right after 7".
unfoldable pub list_verdict_under : Limit → ℕ → List ℕ → List ℕ → Verdict
list_verdict_under limit lowest s list =
    first_refusal (sheet_checks_with lowest s ++ (limit_checks limit ++ check10 list ∷ walk_verdict limit lowest s list ∷ []))

-- "A list passes when its walk ends there and no check has refused it.": the list (document 01: grounds) is a refutation of the sheet under the limit.
abbrev pub RefutesUnder : Limit → List ℕ → List ℕ → Type 0
RefutesUnder limit s list = list_verdict_under limit lowest_lot s list ≡ Passes

-- The checker's answer: no value for a list that passes.
unfoldable pub check_answer_under : Limit → ℕ → List ℕ → List ℕ → Answer
check_answer_under limit lowest s list = answer_of (list_verdict_under limit lowest s list) (answered 0 0 0)

-- ---- without a limit: where lots count from `lowest`, and as they do

abbrev pub list_verdict_with : ℕ → List ℕ → List ℕ → Verdict
list_verdict_with lowest s list = list_verdict_under unlimited lowest s list

abbrev pub list_verdict : List ℕ → List ℕ → Verdict
list_verdict s list = list_verdict_with lowest_lot s list

abbrev pub Refutes : List ℕ → List ℕ → Type 0
Refutes s list = RefutesUnder unlimited s list

abbrev pub check_answer_with : ℕ → List ℕ → List ℕ → Answer
check_answer_with lowest s list = check_answer_under unlimited lowest s list

abbrev pub check_answer : List ℕ → List ℕ → Answer
check_answer s list = check_answer_with lowest_lot s list

-- ---- with one

-- The checker's answer to a limit, whatever number it is.
abbrev pub limited_check_answer : List ℕ → ℕ → List ℕ → Answer
limited_check_answer s limit list = check_answer_under (up_to limit) lowest_lot s list
