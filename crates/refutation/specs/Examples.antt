-- What the walk says of lists over document 01's sheet A, by computation: each of checks 10 to 15, with its place; of two lists over A with a condition
-- withdrawn; and of lists that name lot 0.
use Rattle.std.specs.Prelude.{ℕ, zero, suc, List, [], ◌∷◌, ◌++◌, ◌≡◌, refl, take, set}
use Rattle.sheet.specs.Verdicts.{Verdict, Passes, Refuses}
use Rattle.buffers.specs.Bytes.{number, two_bytes}
use Rattle.sheet.specs.Format.{lowest_lot, head_at, sign_at, spare_at, first_lot_at, second_lot_at, next_at, zero_bytes, vacant}
use Rattle.sheet.specs.Checks.{first_refusal, lowest_refusal, check1, check2, check3, check4, well_formed, check5, member, walk_chain, walk_chains, walked, check17_and6, check7, sheet_checks_with}
use Rattle.sheet.specs.Conditions.{chain, records_from, terms_from, count_up, conditions}
use Rattle.equality.specs.Meaning.{any_term, some_term}
use Rattle.equality.specs.Node.{merged, classes, marked, value}
use Rattle.limit.specs.Meaning.{unlimited}
use Rattle.store.specs.Records.{NodeRecord, split_record, ground_record, met_record, encode, encode_all, of_kind, decode, records_of}
use Rattle.refutation.specs.Refutation.{ground_fails, nearest, walk_from, check10, walk_verdict, list_verdict, list_verdict_under}

-- A: same 1 2; same 2 3; apart 1 3.
abbrev pub sheet_a : List ℕ
sheet_a =
    3 ∷ 0 ∷ 3 ∷ 0 ∷ 3 ∷ 0 ∷
    1 ∷ 0 ∷ 2 ∷ 0 ∷ 3 ∷ 0 ∷
    1 ∷ 0 ∷ 1 ∷ 0 ∷ 2 ∷ 0 ∷ 0 ∷ 0 ∷
    1 ∷ 0 ∷ 2 ∷ 0 ∷ 3 ∷ 0 ∷ 0 ∷ 0 ∷
    2 ∷ 0 ∷ 1 ∷ 0 ∷ 3 ∷ 0 ∷ 0 ∷ 0 ∷ []

-- Its own refutation, and the records that take a place in others.
abbrev pub refutation_a : List NodeRecord
refutation_a = split_record 1 2 5 ∷ split_record 2 3 4 ∷ ground_record 3 ∷ ground_record 2 ∷ ground_record 1 ∷ []

-- A with condition 1 withdrawn: its head is zero, and its record vacant.
abbrev pub sheet_withdrawn : List ℕ
sheet_withdrawn =
    3 ∷ 0 ∷ 3 ∷ 0 ∷ 3 ∷ 0 ∷
    0 ∷ 0 ∷ 2 ∷ 0 ∷ 3 ∷ 0 ∷
    0 ∷ 0 ∷ 0 ∷ 0 ∷ 0 ∷ 0 ∷ 0 ∷ 0 ∷
    1 ∷ 0 ∷ 2 ∷ 0 ∷ 3 ∷ 0 ∷ 0 ∷ 0 ∷
    2 ∷ 0 ∷ 1 ∷ 0 ∷ 3 ∷ 0 ∷ 0 ∷ 0 ∷ []

-- same 0 1; apart 1 0.
abbrev pub sheet_zero : List ℕ
sheet_zero =
    1 ∷ 0 ∷ 2 ∷ 0 ∷ 2 ∷ 0 ∷
    1 ∷ 0 ∷ 2 ∷ 0 ∷
    1 ∷ 0 ∷ 0 ∷ 0 ∷ 1 ∷ 0 ∷ 0 ∷ 0 ∷
    2 ∷ 0 ∷ 1 ∷ 0 ∷ 0 ∷ 0 ∷ 0 ∷ 0 ∷ []

-- The verdict on some bytes.
abbrev pub says : List ℕ → Verdict
says list = list_verdict sheet_a list

-- The verdict on the refutation with one byte changed, at a place counted from 0.
abbrev pub changed : ℕ → ℕ → Verdict
changed place byte = says (set (encode_all refutation_a) place byte)

-- So many splits, one below the other.
unfoldable pub splits : ℕ → List NodeRecord
splits zero = []
splits (suc n) = split_record 1 2 0 ∷ splits n

pub verdicts :
    says (encode_all refutation_a)
    -- 10: no byte, no multiple of 8
    ∷ says []
    ∷ says (take 39 (encode_all refutation_a))
    -- 11: kinds 0, 3 and 4, the spare byte, lots 4 and 257, a ground's condition 0 and 4, its second and its next
    ∷ changed 0 0
    ∷ changed 8 3
    ∷ changed 16 4
    ∷ changed 9 1
    ∷ changed 4 4
    ∷ changed 3 1
    ∷ changed 18 0
    ∷ changed 26 4
    ∷ changed 20 1
    ∷ changed 38 1
    -- 12: condition 1, same 1 2, is open where the first split is on 1 3
    ∷ changed 4 3
    -- lot 0 in a split's first field, and in its second, is in range: condition 3, apart 1 3, is open then
    ∷ changed 2 0
    ∷ changed 4 0
    -- a refutation that splits on lot 0, as written in the term and the other way round
    ∷ list_verdict sheet_zero (encode_all (split_record 0 1 3 ∷ ground_record 2 ∷ ground_record 1 ∷ []))
    ∷ list_verdict sheet_zero (encode_all (split_record 1 0 3 ∷ ground_record 2 ∷ ground_record 1 ∷ []))
    -- 11: a ground's condition 0, also where lot 0 is named
    ∷ list_verdict sheet_zero (encode_all (split_record 0 1 3 ∷ ground_record 0 ∷ ground_record 1 ∷ []))
    -- 12: a ground on a withdrawn condition, where it would be the last one, and alone
    ∷ list_verdict sheet_withdrawn (encode_all refutation_a)
    ∷ list_verdict sheet_withdrawn (encode_all (ground_record 1 ∷ []))
    -- 13: a split's next, named at the split, also where the list is over
    ∷ changed 6 4
    ∷ changed 14 5
    ∷ says (take 24 (encode_all (split_record 1 2 5 ∷ split_record 2 3 9 ∷ ground_record 3 ∷ [])))
    -- 14: the next record is missing, after a ground and after a split; a record is left over, whatever it is
    ∷ says (take 32 (encode_all refutation_a))
    ∷ says (take 8 (encode_all refutation_a))
    ∷ says (encode_all (refutation_a ++ met_record ∷ []))
    -- 15: 1,024 splits stand above a split
    ∷ walk_from unlimited lowest_lot sheet_a (splits 1025) 1 []
    ∷ walk_from unlimited lowest_lot sheet_a (splits 1024) 1 []
    ∷ []
    ≡ Passes
    ∷ Refuses 10 0
    ∷ Refuses 10 0
    ∷ Refuses 11 1
    ∷ Refuses 11 2
    ∷ Refuses 11 3
    ∷ Refuses 11 2
    ∷ Refuses 11 1
    ∷ Refuses 11 1
    ∷ Refuses 11 3
    ∷ Refuses 11 4
    ∷ Refuses 11 3
    ∷ Refuses 11 5
    ∷ Refuses 12 5
    ∷ Refuses 12 3
    ∷ Refuses 12 3
    ∷ Passes
    ∷ Passes
    ∷ Refuses 11 2
    ∷ Refuses 12 5
    ∷ Refuses 12 1
    ∷ Refuses 13 1
    ∷ Refuses 13 2
    ∷ Refuses 13 2
    ∷ Refuses 14 5
    ∷ Refuses 14 2
    ∷ Refuses 14 6
    ∷ Refuses 15 1025
    ∷ Refuses 14 1025
    ∷ []
unfolding number two_bytes head_at sign_at spare_at first_lot_at second_lot_at next_at zero_bytes vacant first_refusal lowest_refusal check1 check2 check3 check4 well_formed check5 member walk_chain walk_chains walked check17_and6 check7 sheet_checks_with chain records_from terms_from count_up conditions any_term some_term merged classes marked value encode encode_all of_kind decode records_of ground_fails nearest walk_from check10 walk_verdict list_verdict_under splits
verdicts = refl
