-- Small sheets under limits on the classes (document 02, job 7), from bytes to bytes, by computation: the searches, and what the checker says of lists with
-- cliques, with a limit and without one.
use Rattle.std.specs.Prelude.{ℕ, ◌+◌, ◌*◌, List, [], ◌∷◌, ◌++◌, map, ◌≡◌, refl, replicate, set}
use Rattle.buffers.specs.Bytes.{number, two_bytes}
use Rattle.buffers.specs.Written.{written}
use Rattle.sheet.specs.Format.{head_at, sign_at, spare_at, first_lot_at, second_lot_at, next_at, zero_bytes, vacant}
use Rattle.sheet.specs.Checks.{first_refusal, lowest_refusal, check1, check2, check3, check4, well_formed, check5, member, walk_chain, walk_chains, walked, check17_and6, check7, sheet_checks_with, sheet_verdict_with}
use Rattle.sheet.specs.Conditions.{chain, records_from, terms_from, count_up, conditions}
use Rattle.sheet.specs.Answers.{Answer, refused, answered}
use Rattle.equality.specs.Meaning.{any_term, some_term}
use Rattle.equality.specs.Node.{merged, classes, marked, value, taken, ground_or_split}
use Rattle.equality.specs.Search.{is_met, after_same, visit_node, visit, node_count, met_decisions, grouping_bytes}
use Rattle.equality.specs.Evaluator.{check8, grouping_verdict_with, lowest_unmet, evaluate_answer_with}
use Rattle.limit.specs.Meaning.{up_to, check20}
use Rattle.limit.specs.Rule.{smallest_from, classes_left, split_with, clique_or_split, none_taken, node_under, marked_with, all_marked, clique_passes}
use Rattle.limit.specs.Search.{limited_tree}
use Rattle.store.specs.Records.{NodeRecord, split_record, ground_record, met_record, clique_record, record_length, encode, of_kind, decode, records_of, encode_all}
use Rattle.outcome.specs.Nodes.{records}
use Rattle.outcome.specs.Outcome.{Outcome, result_of}
use Rattle.outcome.specs.Limited.{verdict_under, outcome_under}
use Rattle.refutation.specs.Refutation.{ground_fails, nearest, walk_from, check10, walk_verdict, list_verdict_under, check_answer, check_answer_under, limited_check_answer}
use Rattle.examples_table.specs.Sheets.{met_with, cannot_with, sheet_c}

-- ---- the sheets: header, heads, then a record a line

-- apart 0 1; apart 0 2; apart 1 2: three classes, whoever meets it.
unfoldable pub all_apart : List ℕ
all_apart =
    2 ∷ 0 ∷ 3 ∷ 0 ∷ 3 ∷ 0 ∷
    1 ∷ 0 ∷ 2 ∷ 0 ∷ 3 ∷ 0 ∷
    2 ∷ 0 ∷ 0 ∷ 0 ∷ 1 ∷ 0 ∷ 0 ∷ 0 ∷
    2 ∷ 0 ∷ 0 ∷ 0 ∷ 2 ∷ 0 ∷ 0 ∷ 0 ∷
    2 ∷ 0 ∷ 1 ∷ 0 ∷ 2 ∷ 0 ∷ 0 ∷ 0 ∷ []

-- Two lots, and no condition; one condition, withdrawn; no lots.
unfoldable pub free_lots : List ℕ
free_lots = 2 ∷ 0 ∷ 0 ∷ 0 ∷ 0 ∷ 0 ∷ []

unfoldable pub free_withdrawn : List ℕ
free_withdrawn = 2 ∷ 0 ∷ 1 ∷ 0 ∷ 0 ∷ 0 ∷ 0 ∷ 0 ∷ []

unfoldable pub no_lots : List ℕ
no_lots = 0 ∷ 0 ∷ 0 ∷ 0 ∷ 0 ∷ 0 ∷ []

-- ---- the searches

-- A sheet, a limit and how many records the store holds; the answer, the grouping written and the records.
pub record LimitedRow : Type 0 where
  pub sheet : List ℕ
  pub limit : ℕ
  pub room : ℕ
  pub answer : Answer
  pub grouped : List ℕ
  pub nodes : List NodeRecord

-- Four bytes of grouping, each 170, and so many records of store and three bytes.
abbrev pub lent_grouping : List ℕ
lent_grouping = replicate 4 170

abbrev pub lent_store : ℕ → List ℕ
lent_store room = replicate (record_length * room + 3) 170

abbrev pub searched : LimitedRow → Outcome
searched row = outcome_under (up_to row.limit) row.sheet lent_grouping (lent_store row.room)

abbrev pub expected : LimitedRow → Outcome
expected row =
    record {
      answer = row.answer;
      grouping = written row.grouped lent_grouping;
      store = written (encode_all row.nodes) (lent_store row.room);
    }

abbrev pub row : List ℕ → ℕ → ℕ → Answer → List ℕ → List NodeRecord → LimitedRow
row s g room answer grouped nodes = record { sheet = s; limit = g; room = room; answer = answer; grouped = grouped; nodes = nodes }

-- The list of document 01's C under the limit 1, and of the sheet of three classes under the limit 2.
abbrev pub list_of_c : List NodeRecord
list_of_c = split_record 1 2 3 ∷ ground_record 2 ∷ split_record 1 3 7 ∷ split_record 0 1 6 ∷ clique_record ∷ clique_record ∷ ground_record 1 ∷ []

abbrev pub list_of_two : List NodeRecord
list_of_two =
    split_record 0 1 3 ∷ ground_record 1
    ∷ split_record 0 2 5 ∷ ground_record 2
    ∷ split_record 1 2 7 ∷ ground_record 3
    ∷ clique_record ∷ []

unfoldable pub limited_rows : List LimitedRow
limited_rows =
    -- three classes under 1, 2 and 3: with one or two different numbers nobody can meet it, with three somebody can
    row all_apart 1 8 (cannot_with 3) [] (split_record 0 1 3 ∷ ground_record 1 ∷ clique_record ∷ [])
    ∷ row all_apart 2 8 (cannot_with 7) [] list_of_two
    ∷ row all_apart 3 8 (met_with 1) (1 ∷ 2 ∷ []) (met_record ∷ [])
    -- with a limit above n the search is as without one
    ∷ row all_apart 129 8 (met_with 1) (1 ∷ 2 ∷ []) (met_record ∷ [])
    -- free lots are joined, the lowest pair first, until no more classes are left than the limit
    ∷ row free_lots 1 8 (met_with 3) (0 ∷ 0 ∷ []) (split_record 0 1 0 ∷ split_record 0 2 0 ∷ met_record ∷ [])
    ∷ row free_lots 2 8 (met_with 2) (0 ∷ 2 ∷ []) (split_record 0 1 0 ∷ met_record ∷ [])
    -- a withdrawn condition is passed over; with no lots there is lot 0's class alone
    ∷ row free_withdrawn 2 8 (met_with 2) (0 ∷ 2 ∷ []) (split_record 0 1 0 ∷ met_record ∷ [])
    ∷ row no_lots 1 8 (met_with 1) [] (met_record ∷ [])
    -- document 01's C: the conditions come first
    ∷ row sheet_c 2 8 (met_with 5) (0 ∷ 2 ∷ 0 ∷ []) (split_record 1 2 3 ∷ ground_record 2 ∷ split_record 1 3 0 ∷ split_record 0 1 0 ∷ met_record ∷ [])
    ∷ row sheet_c 1 8 (cannot_with 7) [] list_of_c
    -- 20, by all bits of the limit, and after the sheet's own checks
    ∷ row all_apart 0 8 (refused 20 0) [] []
    ∷ row all_apart 130 8 (refused 20 130) [] []
    ∷ row all_apart 257 8 (refused 20 257) [] []
    ∷ row all_apart 65793 8 (refused 20 65793) [] []
    ∷ row [] 0 8 (refused 1 0) [] []
    ∷ []

-- ---- the proved tables

-- Each search comes to that, down to the last byte of both buffers. Where the store has room for one record less, or for none, it is full, and its whole
-- records are zero. 20 is before 8.
pub limited :
    (map searched limited_rows ≡ map expected limited_rows)
    × (outcome_under (up_to 2) all_apart lent_grouping (lent_store 6)
    ≡ record { answer = refused 9 6; grouping = lent_grouping; store = replicate 48 0 ++ replicate 3 170 })
    × ((outcome_under (up_to 3) all_apart lent_grouping []).answer ≡ refused 9 0)
    × ((outcome_under (up_to 0) all_apart [] []).answer ≡ refused 20 0)
    × ((outcome_under (up_to 3) all_apart [] []).answer ≡ refused 8 2)
unfolding limited_rows number two_bytes head_at sign_at spare_at first_lot_at second_lot_at next_at zero_bytes vacant first_refusal lowest_refusal check1 check2 check3 check4 well_formed check5 member walk_chain walk_chains walked check17_and6 check7 sheet_checks_with sheet_verdict_with chain records_from terms_from count_up conditions any_term some_term merged classes marked value taken ground_or_split is_met after_same visit_node visit node_count met_decisions grouping_bytes check8 grouping_verdict_with lowest_unmet evaluate_answer_with check20 smallest_from classes_left split_with clique_or_split none_taken node_under marked_with all_marked clique_passes limited_tree records encode of_kind decode records_of encode_all result_of verdict_under outcome_under ground_fails nearest walk_from check10 walk_verdict list_verdict_under check_answer_under sheet_c all_apart free_lots free_withdrawn no_lots
limited = (refl, refl, refl, refl, refl)

-- The list of the search with limit 2, with one byte changed, at a place counted from 0.
abbrev pub changed : ℕ → ℕ → List ℕ
changed place byte = set (encode_all list_of_two) place byte

-- What the checker says of that list under limits 3, 2, 1, 0 and 130, and without one: it passes with its own limit and with every smaller one that 20 admits,
-- with a greater one too few classes are left, and without one kind 4 is out of range. A clique with another field that isn't 0 is refused by 11 at the record;
-- one above which not all of the g + 1 classes with the smallest lots are marked apart by 12, wherever other marks are. After cliques that pass the walk goes
-- on.
pub checked :
    (map (λ g. limited_check_answer all_apart g (encode_all list_of_two)) (3 ∷ 2 ∷ 1 ∷ 0 ∷ 130 ∷ [])
    ≡ refused 12 7 ∷ answered 0 0 0 ∷ answered 0 0 0 ∷ refused 20 0 ∷ refused 20 130 ∷ [])
    × (check_answer all_apart (encode_all list_of_two) ≡ refused 11 7)
    × (map (limited_check_answer all_apart 2) (changed 49 1 ∷ changed 50 1 ∷ changed 52 1 ∷ changed 54 1 ∷ changed 48 5 ∷ [])
    ≡ refused 11 7 ∷ refused 11 7 ∷ refused 11 7 ∷ refused 11 7 ∷ refused 11 7 ∷ [])
    × (map (λ list. limited_check_answer all_apart 1 (encode_all list))
    ((split_record 1 2 3 ∷ ground_record 3 ∷ clique_record ∷ []) ∷ (split_record 0 1 3 ∷ clique_record ∷ clique_record ∷ []) ∷ (clique_record ∷ []) ∷ [])
    ≡ refused 12 3 ∷ refused 12 2 ∷ refused 12 1 ∷ [])
    × (limited_check_answer all_apart 0 [] ≡ refused 20 0)
    × (limited_check_answer all_apart 2 [] ≡ refused 10 0)
    × (limited_check_answer sheet_c 1 (encode_all list_of_c) ≡ answered 0 0 0)
unfolding number two_bytes head_at sign_at spare_at first_lot_at second_lot_at next_at zero_bytes vacant first_refusal lowest_refusal check1 check2 check3 check4 well_formed check5 member walk_chain walk_chains walked check17_and6 check7 sheet_checks_with sheet_verdict_with chain records_from terms_from count_up conditions any_term some_term merged classes marked value taken ground_or_split is_met after_same visit_node visit node_count met_decisions grouping_bytes check8 grouping_verdict_with lowest_unmet evaluate_answer_with check20 smallest_from classes_left split_with clique_or_split none_taken node_under marked_with all_marked clique_passes limited_tree records encode of_kind decode records_of encode_all result_of verdict_under outcome_under ground_fails nearest walk_from check10 walk_verdict list_verdict_under check_answer_under sheet_c all_apart free_lots
checked = (refl, refl, refl, refl, refl, refl, refl)
