-- Of a sheet that names lot 0 the lowest lot tells, in every service, by computation: where lots count from 1 it is refused by 5, and a split on lot 0 by 11;
-- and lot 0's number tells the evaluator's answers apart.
use Rattle.std.specs.Prelude.{ℕ, ◌≡◌, refl, replicate}
use mathlib.Core.List.{List, [], ◌∷◌, flatten}
use Rattle.buffers.specs.Bytes.{number, two_bytes}
use Rattle.sheet.specs.Format.{head_at, sign_at, spare_at, first_lot_at, second_lot_at, next_at, zero_bytes, vacant}
use Rattle.sheet.specs.Checks.{first_refusal, lowest_refusal, check1, check2, check3, check4, well_formed, check5, member, walk_chain, walk_chains, walked, check17_and6, check7, sheet_checks_with, sheet_verdict_with}
use Rattle.sheet.specs.Conditions.{chain, records_from, terms_from, count_up, conditions}
use Rattle.sheet.specs.Answers.{refused, answered, read_answer_with}
use Rattle.equality.specs.Meaning.{any_term, some_term}
use Rattle.equality.specs.Node.{merged, classes, marked, value, taken, ground_or_split, node}
use Rattle.equality.specs.Search.{is_met, after_same, visit_node, visit, same_terms, all_same_terms, search_tree, node_count, met_decisions, grouping_bytes}
use Rattle.equality.specs.Evaluator.{check8, grouping_verdict_with, lowest_unmet, evaluate_answer_with}
use Rattle.store.specs.Records.{encode, encode_all, of_kind, decode, records_of}
use Rattle.refutation.specs.Refutation.{ground_fails, nearest, walk_from, check10, walk_verdict, list_verdict_under, check_answer_with, check_answer_under}
use Rattle.outcome.specs.Nodes.{records}
use Rattle.outcome.specs.Outcome.{result_of, search_outcome_with}
use Rattle.canonical.specs.Canonical.{term_record, chain_records, sheet_records, heads_from, canonical}
use Rattle.repack.specs.Repack.{check16, repack_verdict_with, repack_answer_with, repack_out_with}
use Rattle.repeats.specs.Repeats.{equal_terms, equal_conditions, repeats, without_repeats, has_terms, merged_conditions}
use Rattle.merge.specs.Merge.{which_refused_with, check18, check19, merge_verdict_with, merge_answer_with, merge_out_with}
use Rattle.lines.specs.Lines.{digits, decimal, line, header_line, record_line, record_lines, refused_line, met_line, cannot_line}
use Rattle.text.specs.Program.{result_text, printed_with}

-- Two vacant records around "same 1 0", and around "apart 1 1".
abbrev pub named : List ℕ
named =
    1 ∷ 0 ∷ 1 ∷ 0 ∷ 3 ∷ 0 ∷
    2 ∷ 0 ∷
    0 ∷ 0 ∷ 0 ∷ 0 ∷ 0 ∷ 0 ∷ 0 ∷ 0 ∷
    1 ∷ 0 ∷ 1 ∷ 0 ∷ 0 ∷ 0 ∷ 0 ∷ 0 ∷
    0 ∷ 0 ∷ 0 ∷ 0 ∷ 0 ∷ 0 ∷ 0 ∷ 0 ∷ []

abbrev pub unnamed : List ℕ
unnamed =
    1 ∷ 0 ∷ 1 ∷ 0 ∷ 3 ∷ 0 ∷
    2 ∷ 0 ∷
    0 ∷ 0 ∷ 0 ∷ 0 ∷ 0 ∷ 0 ∷ 0 ∷ 0 ∷
    2 ∷ 0 ∷ 1 ∷ 0 ∷ 1 ∷ 0 ∷ 0 ∷ 0 ∷
    0 ∷ 0 ∷ 0 ∷ 0 ∷ 0 ∷ 0 ∷ 0 ∷ 0 ∷ []

-- "same 0 1".
abbrev pub turned : List ℕ
turned =
    1 ∷ 0 ∷ 1 ∷ 0 ∷ 1 ∷ 0 ∷
    1 ∷ 0 ∷
    1 ∷ 0 ∷ 0 ∷ 0 ∷ 1 ∷ 0 ∷ 0 ∷ 0 ∷ []

-- So many bytes, each 170.
abbrev pub room : ℕ → List ℕ
room n = replicate n 170

-- A split on lots 0 and 1, then two grounds.
abbrev pub on_zero : List ℕ
on_zero =
    1 ∷ 0 ∷ 0 ∷ 0 ∷ 1 ∷ 0 ∷ 3 ∷ 0 ∷
    2 ∷ 0 ∷ 1 ∷ 0 ∷ 0 ∷ 0 ∷ 0 ∷ 0 ∷
    2 ∷ 0 ∷ 1 ∷ 0 ∷ 0 ∷ 0 ∷ 0 ∷ 0 ∷ []

-- Reader, checker and evaluator, and what the writers answer.
pub answers :
    read_answer_with 1 named ∷ read_answer_with 0 named ∷ read_answer_with 1 unnamed ∷ read_answer_with 0 unnamed
    ∷ check_answer_with 1 unnamed on_zero ∷ check_answer_with 0 unnamed on_zero
    ∷ evaluate_answer_with 0 0 named (7 ∷ []) ∷ evaluate_answer_with 0 7 named (7 ∷ [])
    ∷ repack_answer_with 1 named (room 20) ∷ repack_answer_with 0 named (room 20)
    ∷ merge_answer_with 1 has_terms unnamed named (room 30) ∷ merge_answer_with 0 has_terms unnamed named (room 30)
    -- "same 0 1" is no repeat of "same 1 0", which repeats itself
    ∷ merge_answer_with 0 has_terms named turned (room 30) ∷ merge_answer_with 0 has_terms named named (room 30)
    ∷ []
    ≡ refused 5 2 ∷ answered 1 1 3 ∷ answered 1 1 3 ∷ answered 1 1 3
    ∷ refused 11 1 ∷ answered 0 0 0
    ∷ answered 1 0 0 ∷ answered 0 0 0
    ∷ refused 5 2 ∷ answered 16 0 0
    ∷ refused 5 2 ∷ answered 26 0 0
    ∷ answered 26 0 0 ∷ answered 16 0 0
    ∷ []
unfolding number two_bytes head_at sign_at spare_at first_lot_at second_lot_at next_at zero_bytes vacant first_refusal lowest_refusal check1 check2 check3 check4 well_formed check5 member walk_chain walk_chains walked check17_and6 check7 sheet_checks_with sheet_verdict_with chain records_from terms_from count_up conditions read_answer_with any_term some_term merged classes marked value check8 grouping_verdict_with lowest_unmet evaluate_answer_with of_kind decode records_of ground_fails nearest walk_from check10 walk_verdict list_verdict_under check_answer_under term_record chain_records sheet_records heads_from canonical flatten check16 repack_verdict_with repack_answer_with repack_out_with equal_terms equal_conditions repeats without_repeats which_refused_with merged_conditions check18 check19 merge_verdict_with merge_answer_with merge_out_with
answers = refl

-- The sheet that is refused, and the outputs.
pub outputs :
    (which_refused_with 1 unnamed named ∷ which_refused_with 0 unnamed named ∷ [] ≡ 2 ∷ 0 ∷ [])
    × (repack_out_with 1 named (room 17) ∷ repack_out_with 0 named (room 17)
    ∷ merge_out_with 1 has_terms unnamed named (room 27) ∷ merge_out_with 0 has_terms unnamed named (room 27)
    ∷ []
    ≡ room 17
    ∷ (1 ∷ 0 ∷ 1 ∷ 0 ∷ 1 ∷ 0 ∷ 1 ∷ 0 ∷ 1 ∷ 0 ∷ 1 ∷ 0 ∷ 0 ∷ 0 ∷ 0 ∷ 0 ∷ 170 ∷ [])
    ∷ room 27
    ∷ (1 ∷ 0 ∷ 2 ∷ 0 ∷ 2 ∷ 0 ∷ 1 ∷ 0 ∷ 2 ∷ 0 ∷ 2 ∷ 0 ∷ 1 ∷ 0 ∷ 1 ∷ 0 ∷ 0 ∷ 0 ∷ 1 ∷ 0 ∷ 1 ∷ 0 ∷ 0 ∷ 0 ∷ 0 ∷ 0 ∷ 170 ∷ [])
    ∷ [])
unfolding number two_bytes head_at sign_at spare_at first_lot_at second_lot_at next_at zero_bytes vacant first_refusal lowest_refusal check1 check2 check3 check4 well_formed check5 member walk_chain walk_chains walked check17_and6 check7 sheet_checks_with sheet_verdict_with chain records_from terms_from count_up conditions read_answer_with any_term some_term merged classes marked value check8 grouping_verdict_with lowest_unmet evaluate_answer_with of_kind decode records_of ground_fails nearest walk_from check10 walk_verdict list_verdict_under check_answer_under term_record chain_records sheet_records heads_from canonical flatten check16 repack_verdict_with repack_answer_with repack_out_with equal_terms equal_conditions repeats without_repeats which_refused_with merged_conditions check18 check19 merge_verdict_with merge_answer_with merge_out_with
outputs = (refl, refl)

-- The search with both buffers, and what is printed: "refused 5 2"; "lots 1 conditions 1 terms 3", "split 1 0 0", "met 0".
pub searches :
    (search_outcome_with 1 named (room 2) (room 17) ∷ search_outcome_with 0 named (room 2) (room 17) ∷ []
    ≡ record { answer = refused 5 2; grouping = room 2; store = room 17 }
    ∷ record {
      answer = answered 1 2 0;
      grouping = 0 ∷ 170 ∷ [];
      store = 1 ∷ 0 ∷ 1 ∷ 0 ∷ 0 ∷ 0 ∷ 0 ∷ 0 ∷ 3 ∷ 0 ∷ 0 ∷ 0 ∷ 0 ∷ 0 ∷ 0 ∷ 0 ∷ 170 ∷ [];
    }
    ∷ [])
    × (printed_with 1 named ∷ printed_with 0 named ∷ []
    ≡ (114 ∷ 101 ∷ 102 ∷ 117 ∷ 115 ∷ 101 ∷ 100 ∷ 32 ∷ 53 ∷ 32 ∷ 50 ∷ 10 ∷ [])
    ∷ (108 ∷ 111 ∷ 116 ∷ 115 ∷ 32 ∷ 49 ∷ 32 ∷ 99 ∷ 111 ∷ 110 ∷ 100 ∷ 105 ∷ 116 ∷ 105 ∷ 111 ∷ 110 ∷ 115 ∷ 32 ∷ 49 ∷ 32 ∷ 116 ∷ 101 ∷ 114 ∷ 109 ∷ 115 ∷ 32 ∷ 51 ∷ 10
    ∷ 115 ∷ 112 ∷ 108 ∷ 105 ∷ 116 ∷ 32 ∷ 49 ∷ 32 ∷ 48 ∷ 32 ∷ 48 ∷ 10 ∷ 109 ∷ 101 ∷ 116 ∷ 32 ∷ 48 ∷ 10 ∷ [])
    ∷ [])
unfolding number two_bytes head_at sign_at spare_at first_lot_at second_lot_at next_at zero_bytes vacant first_refusal lowest_refusal check1 check2 check3 check4 well_formed check5 member walk_chain walk_chains walked check17_and6 check7 sheet_checks_with sheet_verdict_with chain records_from terms_from count_up conditions any_term some_term merged classes marked value taken ground_or_split node is_met after_same visit_node visit same_terms all_same_terms search_tree node_count met_decisions grouping_bytes check8 grouping_verdict_with encode encode_all records result_of search_outcome_with digits decimal line header_line record_line record_lines refused_line met_line cannot_line result_text printed_with
searches = (refl, refl)
