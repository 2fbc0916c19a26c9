-- The merge beside that of job 4 alone, by computation: where the answer changes, and where it doesn't.
use Rattle.std.specs.Prelude.{ℕ, ◌+◌, ◌≡◌, refl}
use mathlib.Core.List.{List, [], ◌∷◌, flatten}
use Rattle.buffers.specs.Bytes.{number, two_bytes}
use Rattle.sheet.specs.Format.{head_at, sign_at, spare_at, first_lot_at, second_lot_at, next_at, zero_bytes, vacant}
use Rattle.sheet.specs.Checks.{first_refusal, lowest_refusal, check1, check2, check3, check4, well_formed, check5, member, walk_chain, walk_chains, walked, check17_and6, check7, sheet_checks_with, sheet_verdict_with}
use Rattle.sheet.specs.Conditions.{chain, records_from, terms_from, count_up, conditions}
use Rattle.sheet.specs.Answers.{Answer, refused, answered}
use Rattle.canonical.specs.Canonical.{term_record, chain_records, sheet_records, heads_from, canonical}
use Rattle.repack.specs.Examples.{sheet_c, empty, unreached, room}
use Rattle.repeats.specs.Repeats.{equal_terms, equal_conditions, repeats, without_repeats, has_terms, any_condition, merged_conditions}
use Rattle.merge.specs.Merge.{check18, check19, merge_verdict_with, merge_answer, merge_answer_with}
use Rattle.merge.specs.Examples.{repeated, withdrawn_twice, all_withdrawn, most_withdrawn}
use Rattle.withdrawn_places.specs.Changes.{withdrawn_from, withdrawn_count}

-- How many withdrawn conditions two sheets hold, what is answered to them and so many bytes of output, and what was.
pub data Beside : Type 0 where
  beside : ℕ → Answer → Answer → Beside

abbrev pub beside_of : List ℕ → List ℕ → ℕ → Beside
beside_of s t n = beside (withdrawn_count s + withdrawn_count t) (merge_answer has_terms s t (room n)) (merge_answer any_condition s t (room n))

pub answers :
    -- two withdrawn conditions in the first sheet, in the second, in each
    beside_of withdrawn_twice empty 20
    ∷ beside_of sheet_c withdrawn_twice 99
    ∷ beside_of withdrawn_twice withdrawn_twice 99
    ∷ beside_of (all_withdrawn 1) (all_withdrawn 1) 10
    -- 19 at another place; 19 only since they are kept
    ∷ beside_of withdrawn_twice withdrawn_twice 17
    ∷ beside_of withdrawn_twice withdrawn_twice 18
    -- 256 and 257 of them
    ∷ beside_of (all_withdrawn 255) (all_withdrawn 1) 518
    ∷ beside_of (all_withdrawn 1) most_withdrawn 518
    -- one, or none: nothing changes
    ∷ beside_of (all_withdrawn 1) sheet_c 36
    ∷ beside_of sheet_c (all_withdrawn 1) 35
    ∷ beside_of repeated repeated 26
    -- nor where a sheet is refused
    ∷ beside_of withdrawn_twice unreached 99
    ∷ []
    ≡ beside 2 (answered 20 0 0) (answered 18 0 0)
    ∷ beside 2 (answered 48 0 0) (answered 46 0 0)
    ∷ beside 4 (answered 24 0 0) (answered 18 0 0)
    ∷ beside 2 (answered 10 0 0) (answered 8 0 0)
    ∷ beside 4 (refused 19 24) (refused 19 18)
    ∷ beside 4 (refused 19 24) (answered 18 0 0)
    ∷ beside 256 (answered 518 0 0) (answered 8 0 0)
    ∷ beside 257 (refused 18 2) (answered 8 0 0)
    ∷ beside 1 (answered 36 0 0) (answered 36 0 0)
    ∷ beside 1 (refused 19 36) (refused 19 36)
    ∷ beside 0 (answered 26 0 0) (answered 26 0 0)
    ∷ beside 2 (refused 7 1) (refused 7 1)
    ∷ []
unfolding number two_bytes head_at sign_at spare_at first_lot_at second_lot_at next_at zero_bytes vacant first_refusal lowest_refusal check1 check2 check3 check4 well_formed check5 member walk_chain walk_chains walked check17_and6 check7 sheet_checks_with sheet_verdict_with chain records_from terms_from count_up conditions term_record chain_records sheet_records heads_from canonical flatten equal_terms equal_conditions repeats without_repeats merged_conditions check18 check19 merge_verdict_with merge_answer_with withdrawn_from withdrawn_count
answers = refl
