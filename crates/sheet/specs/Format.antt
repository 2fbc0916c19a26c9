-- Where things stand in a sheet's bytes (document 01, "The sheet"; document 02, "Striking a condition", "The house's hold").
use Rattle.std.specs.Prelude.{ℕ, zero, suc, ◌+◌, ◌*◌, ◌-◌, Bool, true, cond, ◌&&◌, List, [], ◌∷◌, eqb, length, get_or}
use Rattle.buffers.specs.Bytes.{number}

-- "lots n (at most 128), conditions m (at most 256), term records k (at most 1,024)"
abbrev pub most_lots : ℕ
most_lots = 128

abbrev pub most_conditions : ℕ
most_conditions = 256

abbrev pub most_records : ℕ
most_records = 1024

-- "Lot numbers, condition numbers and record numbers each count from 1", but "Lot 0 now stands for the hold and may appear in terms and in splits" (document
-- 02): the lowest lot that a term or a split may name. Definitions that depend on it take it as a parameter; those that services answer by have it fixed here.
abbrev pub lowest_lot : ℕ
lowest_lot = 0

-- "Bytes 0 to 5: lots n .., conditions m .., term records k .., two bytes each. All may be 0."
abbrev pub header_length : ℕ
header_length = 6

abbrev pub lot_count : List ℕ → ℕ
lot_count s = number s 0

abbrev pub condition_count : List ℕ → ℕ
condition_count s = number s 2

abbrev pub record_count : List ℕ → ℕ
record_count s = number s 4

-- "The length is 6 + 2m + 8k."
abbrev pub sheet_length : ℕ → ℕ → ℕ
sheet_length m k = header_length + 2 * m + 8 * k

-- "m heads, two bytes each: the record number of the condition's first term." The head of condition c. "A zero head .. means struck" (document 02): the
-- condition is withdrawn.
unfoldable pub head_at : List ℕ → ℕ → ℕ
head_at s c = number s (header_length + 2 * (c - 1))

-- "k records of eight bytes": where record r begins, after m heads.
abbrev pub record_place : ℕ → ℕ → ℕ
record_place m r = header_length + 2 * m + 8 * (r - 1)

-- "sign (one byte, 1 "same", 2 "apart")"
abbrev pub same_sign : ℕ
same_sign = 1

abbrev pub apart_sign : ℕ
apart_sign = 2

-- "sign (one byte, 1 "same", 2 "apart"), spare (one byte, 0), lot a, lot b, next (two bytes each)": the fields of record r.
unfoldable pub sign_at : List ℕ → ℕ → ℕ
sign_at s r = get_or s (record_place (condition_count s) r) 0

unfoldable pub spare_at : List ℕ → ℕ → ℕ
spare_at s r = get_or s (record_place (condition_count s) r + 1) 0

unfoldable pub first_lot_at : List ℕ → ℕ → ℕ
first_lot_at s r = number s (record_place (condition_count s) r + 2)

unfoldable pub second_lot_at : List ℕ → ℕ → ℕ
second_lot_at s r = number s (record_place (condition_count s) r + 4)

unfoldable pub next_at : List ℕ → ℕ → ℕ
next_at s r = number s (record_place (condition_count s) r + 6)

-- `count` bytes from place p on are zero.
unfoldable pub zero_bytes : List ℕ → ℕ → ℕ → Bool
zero_bytes s zero p = true
zero_bytes s (suc count) p = eqb (get_or s p 0) 0 && zero_bytes s count (suc p)

-- "blanked to eight zero bytes, which makes them vacant" (document 02): record r is vacant.
unfoldable pub vacant : List ℕ → ℕ → Bool
vacant s r = zero_bytes s 8 (record_place (condition_count s) r)

-- The records that aren't vacant, of `count` from `from` on; and how many of all.
unfoldable pub filled_records : List ℕ → ℕ → ℕ → List ℕ
filled_records s zero from = []
filled_records s (suc count) from = cond (vacant s from) (filled_records s count (suc from)) (from ∷ filled_records s count (suc from))

abbrev pub filled_count : List ℕ → ℕ
filled_count s = length (filled_records s (record_count s) 1)
