-- Repackings by computation: the answer, and every byte of the output.
use Rattle.std.specs.Prelude.{ℕ, ◌≡◌, refl, replicate}
use mathlib.Core.List.{List, [], ◌∷◌, ◌++◌, flatten}
use Rattle.buffers.specs.Bytes.{number, two_bytes}
use Rattle.sheet.specs.Format.{head_at, sign_at, spare_at, first_lot_at, second_lot_at, next_at, zero_bytes, vacant}
use Rattle.sheet.specs.Checks.{first_refusal, lowest_refusal, check1, check2, check3, check4, well_formed, check5, member, walk_chain, walk_chains, walked, check17_and6, check7, sheet_checks_with}
use Rattle.sheet.specs.Conditions.{chain, records_from, terms_from, count_up, conditions}
use Rattle.sheet.specs.Answers.{Answer, refused, answered}
use Rattle.canonical.specs.Canonical.{term_record, chain_records, sheet_records, heads_from, canonical}
use Rattle.repack.specs.Repack.{check16, repack_verdict_with, repack_answer, repack_answer_with, repack_out, repack_out_with}

-- Document 01's sheet C, its three records in another order,
abbrev pub shuffled_c : List ℕ
shuffled_c =
    3 ∷ 0 ∷ 2 ∷ 0 ∷ 3 ∷ 0 ∷
    3 ∷ 0 ∷ 2 ∷ 0 ∷
    1 ∷ 0 ∷ 1 ∷ 0 ∷ 3 ∷ 0 ∷ 0 ∷ 0 ∷
    2 ∷ 0 ∷ 1 ∷ 0 ∷ 2 ∷ 0 ∷ 0 ∷ 0 ∷
    1 ∷ 0 ∷ 1 ∷ 0 ∷ 2 ∷ 0 ∷ 1 ∷ 0 ∷ []

-- and as document 01 has it, which is packed.
abbrev pub sheet_c : List ℕ
sheet_c =
    3 ∷ 0 ∷ 2 ∷ 0 ∷ 3 ∷ 0 ∷
    1 ∷ 0 ∷ 3 ∷ 0 ∷
    1 ∷ 0 ∷ 1 ∷ 0 ∷ 2 ∷ 0 ∷ 2 ∷ 0 ∷
    1 ∷ 0 ∷ 1 ∷ 0 ∷ 3 ∷ 0 ∷ 0 ∷ 0 ∷
    2 ∷ 0 ∷ 1 ∷ 0 ∷ 2 ∷ 0 ∷ 0 ∷ 0 ∷ []

-- Withdrawn conditions before and behind one of two terms, the second term's record first; and packed.
abbrev pub zero_heads : List ℕ
zero_heads =
    4 ∷ 0 ∷ 3 ∷ 0 ∷ 2 ∷ 0 ∷
    0 ∷ 0 ∷ 2 ∷ 0 ∷ 0 ∷ 0 ∷
    1 ∷ 0 ∷ 4 ∷ 0 ∷ 2 ∷ 0 ∷ 0 ∷ 0 ∷
    2 ∷ 0 ∷ 1 ∷ 0 ∷ 1 ∷ 0 ∷ 1 ∷ 0 ∷ []

abbrev pub zero_heads_packed : List ℕ
zero_heads_packed =
    4 ∷ 0 ∷ 3 ∷ 0 ∷ 2 ∷ 0 ∷
    0 ∷ 0 ∷ 1 ∷ 0 ∷ 0 ∷ 0 ∷
    2 ∷ 0 ∷ 1 ∷ 0 ∷ 1 ∷ 0 ∷ 2 ∷ 0 ∷
    1 ∷ 0 ∷ 4 ∷ 0 ∷ 2 ∷ 0 ∷ 0 ∷ 0 ∷ []

-- Sheet C with condition 1 withdrawn: its head is zero, and its records are vacant. Packed, it has one record; its head stays.
abbrev pub withdrawn_c : List ℕ
withdrawn_c =
    3 ∷ 0 ∷ 2 ∷ 0 ∷ 3 ∷ 0 ∷
    0 ∷ 0 ∷ 3 ∷ 0 ∷
    0 ∷ 0 ∷ 0 ∷ 0 ∷ 0 ∷ 0 ∷ 0 ∷ 0 ∷
    0 ∷ 0 ∷ 0 ∷ 0 ∷ 0 ∷ 0 ∷ 0 ∷ 0 ∷
    2 ∷ 0 ∷ 1 ∷ 0 ∷ 2 ∷ 0 ∷ 0 ∷ 0 ∷ []

abbrev pub withdrawn_packed : List ℕ
withdrawn_packed =
    3 ∷ 0 ∷ 2 ∷ 0 ∷ 1 ∷ 0 ∷
    0 ∷ 0 ∷ 1 ∷ 0 ∷
    2 ∷ 0 ∷ 1 ∷ 0 ∷ 2 ∷ 0 ∷ 0 ∷ 0 ∷ []

-- No conditions, and a vacant record.
abbrev pub vacant_only : List ℕ
vacant_only = 1 ∷ 0 ∷ 0 ∷ 0 ∷ 1 ∷ 0 ∷ replicate 8 0

-- No lots and no conditions. No lots, and a withdrawn condition. A sheet of three bytes. One whose only record is never reached.
abbrev pub empty : List ℕ
empty = replicate 6 0

abbrev pub one_head : List ℕ
one_head = 0 ∷ 0 ∷ 1 ∷ 0 ∷ 0 ∷ 0 ∷ 0 ∷ 0 ∷ []

abbrev pub short : List ℕ
short = 1 ∷ 2 ∷ 3 ∷ []

abbrev pub unreached : List ℕ
unreached = 1 ∷ 0 ∷ 0 ∷ 0 ∷ 1 ∷ 0 ∷ 1 ∷ 0 ∷ 1 ∷ 0 ∷ 1 ∷ 0 ∷ 0 ∷ 0 ∷ []

-- An output of so many bytes before the call; no sheet has these bytes.
abbrev pub room : ℕ → List ℕ
room n = replicate n 255

-- What is answered, and the output afterwards.
pub data Repacking : Type 0 where
  leaves : Answer → List ℕ → Repacking

-- Of a sheet and so many bytes of output.
abbrev pub repacking : List ℕ → ℕ → Repacking
repacking s n = leaves (repack_answer s (room n)) (repack_out s (room n))

pub repackings :
    -- no output; one byte short; just enough; three bytes more, which stay
    repacking shuffled_c 0
    ∷ repacking shuffled_c 33
    ∷ repacking shuffled_c 34
    ∷ repacking shuffled_c 37
    -- a packed sheet changes no byte
    ∷ repacking sheet_c 34
    ∷ repacking zero_heads 27
    ∷ repacking zero_heads 28
    ∷ repacking empty 5
    ∷ repacking empty 8
    ∷ repacking one_head 8
    -- vacant records are dropped: the packed length is below the sheet's
    ∷ repacking withdrawn_c 17
    ∷ repacking withdrawn_c 18
    ∷ repacking withdrawn_c 34
    ∷ repacking vacant_only 6
    -- the reader's refusals come before 16
    ∷ repacking short 5
    ∷ repacking unreached 0
    ∷ []
    ≡ leaves (refused 16 34) []
    ∷ leaves (refused 16 34) (room 33)
    ∷ leaves (answered 34 0 0) sheet_c
    ∷ leaves (answered 34 0 0) (sheet_c ++ room 3)
    ∷ leaves (answered 34 0 0) sheet_c
    ∷ leaves (refused 16 28) (room 27)
    ∷ leaves (answered 28 0 0) zero_heads_packed
    ∷ leaves (refused 16 6) (room 5)
    ∷ leaves (answered 6 0 0) (empty ++ room 2)
    ∷ leaves (answered 8 0 0) one_head
    ∷ leaves (refused 16 18) (room 17)
    ∷ leaves (answered 18 0 0) withdrawn_packed
    ∷ leaves (answered 18 0 0) (withdrawn_packed ++ room 16)
    ∷ leaves (answered 6 0 0) (1 ∷ 0 ∷ 0 ∷ 0 ∷ 0 ∷ 0 ∷ [])
    ∷ leaves (refused 1 0) (room 5)
    ∷ leaves (refused 7 1) []
    ∷ []
unfolding number two_bytes head_at sign_at spare_at first_lot_at second_lot_at next_at zero_bytes vacant first_refusal lowest_refusal check1 check2 check3 check4 well_formed check5 member walk_chain walk_chains walked check17_and6 check7 sheet_checks_with chain records_from terms_from count_up conditions term_record chain_records sheet_records heads_from canonical flatten check16 repack_verdict_with repack_answer_with repack_out_with
repackings = refl
