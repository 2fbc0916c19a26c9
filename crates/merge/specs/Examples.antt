-- Merges by computation: the answer, the sheet that it names, and every byte of the output.
use Rattle.std.specs.Prelude.{ℕ, ◌*◌, ◌≡◌, refl, replicate}
use mathlib.Core.List.{List, [], ◌∷◌, ◌++◌, flatten}
use Rattle.buffers.specs.Bytes.{number, two_bytes}
use Rattle.sheet.specs.Format.{head_at, sign_at, spare_at, first_lot_at, second_lot_at, next_at, zero_bytes, vacant}
use Rattle.sheet.specs.Checks.{first_refusal, lowest_refusal, check1, check2, check3, check4, well_formed, check5, member, walk_chain, walk_chains, walked, check17_and6, check7, sheet_checks_with, sheet_verdict_with}
use Rattle.sheet.specs.Conditions.{chain, records_from, terms_from, count_up, conditions}
use Rattle.sheet.specs.Answers.{Answer, refused, answered}
use Rattle.canonical.specs.Canonical.{term_record, chain_records, sheet_records, heads_from, canonical}
use Rattle.repack.specs.Examples.{shuffled_c, sheet_c, vacant_only, empty, short, unreached, room}
use Rattle.repeats.specs.Repeats.{equal_terms, equal_conditions, repeats, without_repeats, has_terms, any_condition, merged_conditions}
use Rattle.merge.specs.Merge.{which_refused, which_refused_with, check18, check19, merge_verdict_with, merge_answer, merge_answer_with, merge_out, merge_out_with}
use Rattle.merge.specs.Places.{left_out, left_out_before}

-- Document 01's sheet C has "same 1 2 or same 1 3" and "apart 1 2". This one has: "apart 1 2"; "same 1 3 or same 1 2"; "same 2 1"; "same 4 5".
abbrev pub sheet_f : List ℕ
sheet_f =
    5 ∷ 0 ∷ 4 ∷ 0 ∷ 5 ∷ 0 ∷
    1 ∷ 0 ∷ 2 ∷ 0 ∷ 4 ∷ 0 ∷ 5 ∷ 0 ∷
    2 ∷ 0 ∷ 1 ∷ 0 ∷ 2 ∷ 0 ∷ 0 ∷ 0 ∷
    1 ∷ 0 ∷ 1 ∷ 0 ∷ 3 ∷ 0 ∷ 3 ∷ 0 ∷
    1 ∷ 0 ∷ 1 ∷ 0 ∷ 2 ∷ 0 ∷ 0 ∷ 0 ∷
    1 ∷ 0 ∷ 2 ∷ 0 ∷ 1 ∷ 0 ∷ 0 ∷ 0 ∷
    1 ∷ 0 ∷ 4 ∷ 0 ∷ 5 ∷ 0 ∷ 0 ∷ 0 ∷ []

-- C and then this one, F: F's first condition repeats C's second; its second has the terms of C's first in another order, and stays.
abbrev pub merged_cf : List ℕ
merged_cf =
    5 ∷ 0 ∷ 5 ∷ 0 ∷ 7 ∷ 0 ∷
    1 ∷ 0 ∷ 3 ∷ 0 ∷ 4 ∷ 0 ∷ 6 ∷ 0 ∷ 7 ∷ 0 ∷
    1 ∷ 0 ∷ 1 ∷ 0 ∷ 2 ∷ 0 ∷ 2 ∷ 0 ∷
    1 ∷ 0 ∷ 1 ∷ 0 ∷ 3 ∷ 0 ∷ 0 ∷ 0 ∷
    2 ∷ 0 ∷ 1 ∷ 0 ∷ 2 ∷ 0 ∷ 0 ∷ 0 ∷
    1 ∷ 0 ∷ 1 ∷ 0 ∷ 3 ∷ 0 ∷ 5 ∷ 0 ∷
    1 ∷ 0 ∷ 1 ∷ 0 ∷ 2 ∷ 0 ∷ 0 ∷ 0 ∷
    1 ∷ 0 ∷ 2 ∷ 0 ∷ 1 ∷ 0 ∷ 0 ∷ 0 ∷
    1 ∷ 0 ∷ 4 ∷ 0 ∷ 5 ∷ 0 ∷ 0 ∷ 0 ∷ []

-- F and then C.
abbrev pub merged_fc : List ℕ
merged_fc =
    5 ∷ 0 ∷ 5 ∷ 0 ∷ 7 ∷ 0 ∷
    1 ∷ 0 ∷ 2 ∷ 0 ∷ 4 ∷ 0 ∷ 5 ∷ 0 ∷ 6 ∷ 0 ∷
    2 ∷ 0 ∷ 1 ∷ 0 ∷ 2 ∷ 0 ∷ 0 ∷ 0 ∷
    1 ∷ 0 ∷ 1 ∷ 0 ∷ 3 ∷ 0 ∷ 3 ∷ 0 ∷
    1 ∷ 0 ∷ 1 ∷ 0 ∷ 2 ∷ 0 ∷ 0 ∷ 0 ∷
    1 ∷ 0 ∷ 2 ∷ 0 ∷ 1 ∷ 0 ∷ 0 ∷ 0 ∷
    1 ∷ 0 ∷ 4 ∷ 0 ∷ 5 ∷ 0 ∷ 0 ∷ 0 ∷
    1 ∷ 0 ∷ 1 ∷ 0 ∷ 2 ∷ 0 ∷ 7 ∷ 0 ∷
    1 ∷ 0 ∷ 1 ∷ 0 ∷ 3 ∷ 0 ∷ 0 ∷ 0 ∷ []

-- "same 1 2" three times, "apart 2 1" before the last; and without its repeats.
abbrev pub repeated : List ℕ
repeated =
    2 ∷ 0 ∷ 4 ∷ 0 ∷ 4 ∷ 0 ∷
    1 ∷ 0 ∷ 2 ∷ 0 ∷ 3 ∷ 0 ∷ 4 ∷ 0 ∷
    1 ∷ 0 ∷ 1 ∷ 0 ∷ 2 ∷ 0 ∷ 0 ∷ 0 ∷
    1 ∷ 0 ∷ 1 ∷ 0 ∷ 2 ∷ 0 ∷ 0 ∷ 0 ∷
    2 ∷ 0 ∷ 2 ∷ 0 ∷ 1 ∷ 0 ∷ 0 ∷ 0 ∷
    1 ∷ 0 ∷ 1 ∷ 0 ∷ 2 ∷ 0 ∷ 0 ∷ 0 ∷ []

abbrev pub unrepeated : List ℕ
unrepeated =
    2 ∷ 0 ∷ 2 ∷ 0 ∷ 2 ∷ 0 ∷
    1 ∷ 0 ∷ 2 ∷ 0 ∷
    1 ∷ 0 ∷ 1 ∷ 0 ∷ 2 ∷ 0 ∷ 0 ∷ 0 ∷
    2 ∷ 0 ∷ 2 ∷ 0 ∷ 1 ∷ 0 ∷ 0 ∷ 0 ∷ []

-- Withdrawn conditions before and behind "same 1 2"; and this sheet merged with itself, where "same 1 2" alone is left out.
abbrev pub withdrawn_twice : List ℕ
withdrawn_twice =
    2 ∷ 0 ∷ 3 ∷ 0 ∷ 1 ∷ 0 ∷
    0 ∷ 0 ∷ 1 ∷ 0 ∷ 0 ∷ 0 ∷
    1 ∷ 0 ∷ 1 ∷ 0 ∷ 2 ∷ 0 ∷ 0 ∷ 0 ∷ []

abbrev pub withdrawn_again : List ℕ
withdrawn_again =
    2 ∷ 0 ∷ 5 ∷ 0 ∷ 1 ∷ 0 ∷
    0 ∷ 0 ∷ 1 ∷ 0 ∷ 0 ∷ 0 ∷ 0 ∷ 0 ∷ 0 ∷ 0 ∷
    1 ∷ 0 ∷ 1 ∷ 0 ∷ 2 ∷ 0 ∷ 0 ∷ 0 ∷ []

-- Sheet C behind `withdrawn_twice`: its conditions are 4 and 5 of the result.
abbrev pub withdrawn_c : List ℕ
withdrawn_c =
    3 ∷ 0 ∷ 5 ∷ 0 ∷ 4 ∷ 0 ∷
    0 ∷ 0 ∷ 1 ∷ 0 ∷ 0 ∷ 0 ∷ 2 ∷ 0 ∷ 4 ∷ 0 ∷
    1 ∷ 0 ∷ 1 ∷ 0 ∷ 2 ∷ 0 ∷ 0 ∷ 0 ∷
    1 ∷ 0 ∷ 1 ∷ 0 ∷ 2 ∷ 0 ∷ 3 ∷ 0 ∷
    1 ∷ 0 ∷ 1 ∷ 0 ∷ 3 ∷ 0 ∷ 0 ∷ 0 ∷
    2 ∷ 0 ∷ 1 ∷ 0 ∷ 2 ∷ 0 ∷ 0 ∷ 0 ∷ []

-- So many withdrawn conditions, no more than 255; and 256.
abbrev pub all_withdrawn : ℕ → List ℕ
all_withdrawn m = 0 ∷ 0 ∷ m ∷ 0 ∷ 0 ∷ 0 ∷ replicate (2 * m) 0

abbrev pub most_withdrawn : List ℕ
most_withdrawn = 0 ∷ 0 ∷ 0 ∷ 1 ∷ 0 ∷ 0 ∷ replicate 512 0

-- What is answered, the sheet that is refused, and the output afterwards.
pub data Merging : Type 0 where
  leaves : Answer → ℕ → List ℕ → Merging

-- Of two sheets and so many bytes of output.
abbrev pub merging : List ℕ → List ℕ → ℕ → Merging
merging s t n = leaves (merge_answer has_terms s t (room n)) (which_refused s t) (merge_out has_terms s t (room n))

pub mergings :
    -- the records of a sheet may stand in any order; no output; one byte short; just enough; two bytes more, which stay
    merging shuffled_c sheet_f 0
    ∷ merging shuffled_c sheet_f 71
    ∷ merging shuffled_c sheet_f 72
    ∷ merging sheet_c sheet_f 74
    -- in the other order
    ∷ merging sheet_f shuffled_c 72
    -- a sheet with itself: packed, and without its repeats; its withdrawn conditions come once more
    ∷ merging shuffled_c shuffled_c 34
    ∷ merging repeated repeated 26
    ∷ merging withdrawn_twice withdrawn_twice 24
    ∷ merging withdrawn_twice withdrawn_twice 23
    ∷ merging empty empty 6
    -- withdrawn conditions keep their places
    ∷ merging withdrawn_twice shuffled_c 49
    -- 257 conditions come in, and 255 stay
    ∷ merging (all_withdrawn 253) repeated 0
    -- 256 withdrawn conditions, 257, and 512
    ∷ merging (all_withdrawn 255) (all_withdrawn 1) 518
    ∷ merging (all_withdrawn 1) most_withdrawn 999
    ∷ merging most_withdrawn most_withdrawn 0
    -- with no conditions, and vacant records
    ∷ merging vacant_only repeated 28
    ∷ merging repeated vacant_only 25
    -- the first sheet is read before the second, and both before 19
    ∷ merging short unreached 0
    ∷ merging unreached short 99
    ∷ merging sheet_c unreached 0
    ∷ merging sheet_c short 4
    ∷ []
    ≡ leaves (refused 19 72) 0 []
    ∷ leaves (refused 19 72) 0 (room 71)
    ∷ leaves (answered 72 0 0) 0 merged_cf
    ∷ leaves (answered 72 0 0) 0 (merged_cf ++ room 2)
    ∷ leaves (answered 72 0 0) 0 merged_fc
    ∷ leaves (answered 34 0 0) 0 sheet_c
    ∷ leaves (answered 26 0 0) 0 unrepeated
    ∷ leaves (answered 24 0 0) 0 withdrawn_again
    ∷ leaves (refused 19 24) 0 (room 23)
    ∷ leaves (answered 6 0 0) 0 empty
    ∷ leaves (answered 48 0 0) 0 (withdrawn_c ++ room 1)
    ∷ leaves (refused 19 532) 0 []
    ∷ leaves (answered 518 0 0) 0 most_withdrawn
    ∷ leaves (refused 18 2) 0 (room 999)
    ∷ leaves (refused 18 2) 0 []
    ∷ leaves (answered 26 0 0) 0 (unrepeated ++ room 2)
    ∷ leaves (refused 19 26) 0 (room 25)
    ∷ leaves (refused 1 0) 1 []
    ∷ leaves (refused 7 1) 1 (room 99)
    ∷ leaves (refused 7 1) 2 []
    ∷ leaves (refused 1 0) 2 (room 4)
    ∷ []
unfolding number two_bytes head_at sign_at spare_at first_lot_at second_lot_at next_at zero_bytes vacant first_refusal lowest_refusal check1 check2 check3 check4 well_formed check5 member walk_chain walk_chains walked check17_and6 check7 sheet_checks_with sheet_verdict_with chain records_from terms_from count_up conditions term_record chain_records sheet_records heads_from canonical flatten equal_terms equal_conditions repeats without_repeats which_refused_with merged_conditions check18 check19 merge_verdict_with merge_answer_with merge_out_with
mergings = refl

-- Of `repeated` and then `withdrawn_twice` the conditions 2, 4 and 6 are left out, which are "same 1 2"; and 7, were it not withdrawn.
pub places :
    left_out_before has_terms (conditions repeated ++ conditions withdrawn_twice) 4
    ∷ left_out_before has_terms (conditions repeated ++ conditions withdrawn_twice) 7
    ∷ left_out_before any_condition (conditions repeated ++ conditions withdrawn_twice) 7
    ∷ []
    ≡ 2 ∷ 3 ∷ 4 ∷ []
unfolding number head_at sign_at first_lot_at second_lot_at next_at chain records_from terms_from count_up conditions equal_terms equal_conditions repeats left_out left_out_before
places = refl
