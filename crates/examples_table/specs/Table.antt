-- The starred sheets, those with withdrawn conditions, and those that name lot 0, proved in one go each: from bytes to bytes, by computation.
use Rattle.std.specs.Prelude.{ℕ, zero, suc, ◌*◌, ◌≡◌, refl, take}
use mathlib.Core.List.{List, [], ◌∷◌, map, flatten}
use Rattle.buffers.specs.Bytes.{number, two_bytes}
use Rattle.sheet.specs.Format.{head_at, sign_at, spare_at, first_lot_at, second_lot_at, next_at, zero_bytes, vacant}
use Rattle.sheet.specs.Checks.{first_refusal, lowest_refusal, check1, check2, check3, check4, well_formed, check5, member, walk_chain, walk_chains, walked, check17_and6, check7, sheet_checks_with, sheet_verdict_with}
use Rattle.sheet.specs.Conditions.{chain, records_from, terms_from, count_up, conditions}
use Rattle.sheet.specs.Answers.{Answer, refused, answered, read_answer, read_answer_with}
use Rattle.equality.specs.Meaning.{any_term, some_term}
use Rattle.equality.specs.Node.{merged, classes, marked, value, taken, ground_or_split, node}
use Rattle.equality.specs.Search.{is_met, after_same, visit_node, visit, same_terms, all_same_terms, search_tree, node_count, met_decisions, grouping_bytes}
use Rattle.equality.specs.Evaluator.{check8, grouping_verdict_with, lowest_unmet, evaluate_answer, evaluate_answer_with}
use Rattle.store.specs.Records.{record_length, encode, of_kind, decode, records_of, encode_all}
use Rattle.outcome.specs.Nodes.{records}
use Rattle.outcome.specs.Outcome.{Outcome, result_of, search_outcome, search_outcome_with}
use Rattle.refutation.specs.Refutation.{ground_fails, nearest, walk_from, check10, walk_verdict, list_verdict_under, check_answer, check_answer_under}
use Rattle.lines.specs.Lines.{digits, decimal, line, header_line, record_line, record_lines, refused_line, met_line, cannot_line}
use Rattle.text.specs.Program.{result_text, printed, printed_with}
use Rattle.examples_table.specs.Sheets.{Row, starred_rows, withdrawn_rows, printed_c, printed_withdrawn, sheet_a, sheet_b, sheet_c, sheet_d, sheet_empty, sheet_one_head, sheet_same_same, sheet_apart_same, sheet_withdrawn, sheet_still_cannot, sheet_vacant_first, sheet_twice_first, sheet_not_blanked, sheet_nearly_vacant, sheet_vacant_only, row_a, row_b, row_c, row_full, row_d, row_empty, row_one_head, row_same_same, row_apart_same, row_withdrawn, row_still_cannot, row_vacant_first}
use Rattle.examples_table.specs.ZeroSheets.{zero_rows, chained_rows, printed_zero, zero_same, zero_apart, zero_both, zero_met, row_zero_same, row_zero_apart, row_zero_both, row_zero_met, row_chained}

-- A row's outcome, and what the other services say of it: where it is met, the evaluator of the grouping as it is left; where it cannot be met, the
-- checker of the records written; where it is refused, the refusal.
pub record Shown : Type 0 where
  pub outcome : Outcome
  pub confirmed : Answer

abbrev pub confirmed_by : List ℕ → Outcome → Answer → Answer
confirmed_by s outcome (refused check place) = refused check place
confirmed_by s outcome (answered zero count third) = answered zero count third
confirmed_by s outcome (answered (suc zero) count third) = evaluate_answer s outcome.grouping
confirmed_by s outcome (answered (suc (suc other)) count third) = check_answer s (take (record_length * count) outcome.store)

abbrev pub computed : Row → Shown
computed row =
    let outcome = search_outcome row.sheet row.grouping row.store in
    record { outcome = outcome; confirmed = confirmed_by row.sheet outcome outcome.answer }

abbrev pub confirmed_as : Answer → Answer
confirmed_as (refused check place) = refused check place
confirmed_as (answered first count third) = answered 0 0 0

abbrev pub expected : Row → Shown
expected row =
    record {
      outcome = record { answer = row.answer; grouping = row.grouping_after; store = row.store_after };
      confirmed = confirmed_as row.answer;
    }

-- Every starred sheet has the outcome that document 01 gives (and document 02 where it turns), down to the last byte of both buffers; its grouping evaluates
-- to 0, or its records pass the checker; and sheet C prints what document 01 shows.
pub starred : (map computed starred_rows ≡ map expected starred_rows) × (printed sheet_c ≡ printed_c)
unfolding starred_rows row_a row_b row_c row_full row_d row_empty row_one_head row_same_same row_apart_same printed_c sheet_a sheet_b sheet_c sheet_d sheet_empty sheet_one_head sheet_same_same sheet_apart_same number two_bytes head_at sign_at spare_at first_lot_at second_lot_at next_at zero_bytes vacant first_refusal lowest_refusal check1 check2 check3 check4 well_formed check5 member walk_chain walk_chains walked check17_and6 check7 sheet_checks_with sheet_verdict_with chain records_from terms_from count_up conditions any_term some_term merged classes marked value taken ground_or_split node is_met after_same visit_node visit same_terms all_same_terms search_tree node_count met_decisions grouping_bytes check8 grouping_verdict_with lowest_unmet evaluate_answer_with records encode of_kind decode records_of encode_all result_of search_outcome_with ground_fails nearest walk_from check10 walk_verdict list_verdict_under check_answer_under digits decimal line header_line record_line record_lines refused_line met_line cannot_line result_text printed_with
starred = (refl, refl)

-- Likewise with withdrawn conditions and vacant records. The reader counts vacant records in k, refuses by 17 or by 6 as the walk along the chains comes to
-- the one or the other, by 7 a record that was not blanked, and by 5 one that is vacant but for a byte; a ground on a withdrawn condition is refused by 12;
-- and k is printed with the vacant records.
pub withdrawn :
    (map computed withdrawn_rows ≡ map expected withdrawn_rows)
    × (map read_answer (sheet_withdrawn ∷ sheet_vacant_only ∷ sheet_vacant_first ∷ sheet_twice_first ∷ sheet_not_blanked ∷ sheet_nearly_vacant ∷ [])
    ≡ answered 3 3 3 ∷ answered 1 0 1 ∷ refused 17 3 ∷ refused 6 1 ∷ refused 7 1 ∷ refused 5 1 ∷ [])
    × (check_answer sheet_withdrawn (2 ∷ 0 ∷ 1 ∷ 0 ∷ 0 ∷ 0 ∷ 0 ∷ 0 ∷ []) ≡ refused 12 1)
    × (printed sheet_withdrawn ≡ printed_withdrawn)
unfolding withdrawn_rows row_withdrawn row_still_cannot row_vacant_first printed_withdrawn sheet_withdrawn sheet_still_cannot sheet_vacant_first sheet_twice_first sheet_not_blanked sheet_nearly_vacant sheet_vacant_only read_answer_with number two_bytes head_at sign_at spare_at first_lot_at second_lot_at next_at zero_bytes vacant first_refusal lowest_refusal check1 check2 check3 check4 well_formed check5 member walk_chain walk_chains walked check17_and6 check7 sheet_checks_with sheet_verdict_with chain records_from terms_from count_up conditions any_term some_term merged classes marked value taken ground_or_split node is_met after_same visit_node visit same_terms all_same_terms search_tree node_count met_decisions grouping_bytes check8 grouping_verdict_with lowest_unmet evaluate_answer_with records encode of_kind decode records_of encode_all result_of search_outcome_with ground_fails nearest walk_from check10 walk_verdict list_verdict_under check_answer_under digits decimal line header_line record_line record_lines refused_line met_line cannot_line result_text printed_with
withdrawn = (refl, refl, refl, refl)

-- Likewise with lot 0: it is admitted in both fields of a term and of a split, and a ground's condition 0 isn't; the record of "same 0 0" is vacant but for its
-- sign, and has a term; in the evaluator lot 0's number is 0, whatever the grouping's bytes are; and lot 0 is printed as any other.
pub zero_lot :
    (map computed zero_rows ≡ map expected zero_rows)
    × (map read_answer (zero_same ∷ zero_met ∷ []) ≡ answered 0 1 1 ∷ answered 2 3 4 ∷ [])
    × (map (check_answer zero_both)
    ((1 ∷ 0 ∷ 1 ∷ 0 ∷ 0 ∷ 0 ∷ 3 ∷ 0 ∷ 2 ∷ 0 ∷ 2 ∷ 0 ∷ 0 ∷ 0 ∷ 0 ∷ 0 ∷ 2 ∷ 0 ∷ 1 ∷ 0 ∷ 0 ∷ 0 ∷ 0 ∷ 0 ∷ [])
    ∷ (1 ∷ 0 ∷ 0 ∷ 0 ∷ 2 ∷ 0 ∷ 3 ∷ 0 ∷ [])
    ∷ (1 ∷ 0 ∷ 0 ∷ 0 ∷ 1 ∷ 0 ∷ 3 ∷ 0 ∷ 2 ∷ 0 ∷ 0 ∷ 0 ∷ 0 ∷ 0 ∷ 0 ∷ 0 ∷ [])
    ∷ [])
    ≡ answered 0 0 0 ∷ refused 11 1 ∷ refused 11 2 ∷ [])
    × (map (evaluate_answer zero_met) ((0 ∷ 2 ∷ []) ∷ (0 ∷ 7 ∷ 0 ∷ []) ∷ (2 ∷ 2 ∷ []) ∷ (7 ∷ 0 ∷ []) ∷ (0 ∷ 0 ∷ []) ∷ [])
    ≡ answered 0 0 0 ∷ answered 0 0 0 ∷ answered 1 0 0 ∷ answered 3 0 0 ∷ answered 2 0 0 ∷ [])
    × (printed zero_met ≡ printed_zero)
unfolding zero_rows row_zero_same row_zero_apart row_zero_both row_zero_met printed_zero zero_same zero_apart zero_both zero_met read_answer_with number two_bytes head_at sign_at spare_at first_lot_at second_lot_at next_at zero_bytes vacant first_refusal lowest_refusal check1 check2 check3 check4 well_formed check5 member walk_chain walk_chains walked check17_and6 check7 sheet_checks_with sheet_verdict_with chain records_from terms_from count_up conditions any_term some_term merged classes marked value taken ground_or_split node is_met after_same visit_node visit same_terms all_same_terms search_tree node_count met_decisions grouping_bytes check8 grouping_verdict_with lowest_unmet evaluate_answer_with records encode of_kind decode records_of encode_all result_of search_outcome_with ground_fails nearest walk_from check10 walk_verdict list_verdict_under check_answer_under digits decimal line header_line record_line record_lines refused_line met_line cannot_line result_text printed_with
zero_lot = (refl, refl, refl, refl, refl)

-- And 128 lots that are joined to lot 0 one after the other, from above and from below.
pub zero_chained : map computed chained_rows ≡ map expected chained_rows
unfolding flatten chained_rows row_chained number two_bytes head_at sign_at spare_at first_lot_at second_lot_at next_at zero_bytes vacant first_refusal lowest_refusal check1 check2 check3 check4 well_formed check5 member walk_chain walk_chains walked check17_and6 check7 sheet_checks_with sheet_verdict_with chain records_from terms_from count_up conditions any_term some_term merged classes marked value taken ground_or_split node is_met after_same visit_node visit same_terms all_same_terms search_tree node_count met_decisions grouping_bytes check8 grouping_verdict_with lowest_unmet evaluate_answer_with records encode of_kind decode records_of encode_all result_of search_outcome_with ground_fails nearest walk_from check10 walk_verdict list_verdict_under check_answer_under digits decimal line header_line record_line record_lines refused_line met_line cannot_line result_text printed_with
zero_chained = refl
