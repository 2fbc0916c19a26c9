-- The canonical sheet of given lots and conditions. Document 02, job 1: "the records of condition 1 first, in chain order, then
-- condition 2, and so on, each chain running through neighbouring numbers".
use Rattle.std.specs.Prelude.{ℕ, suc, ◌+◌, ◌≤◌, length}
use mathlib.Core.List.{List, [], ◌∷◌, ◌++◌, flatten}
use Rattle.buffers.specs.Bytes.{two_bytes}
use Rattle.sheet.specs.Format.{most_lots, most_conditions, most_records, sheet_length}
use Rattle.buffers.specs.Lists.{All}
use Rattle.sheet.specs.Conditions.{Term, sign_of, first_lot, second_lot, TermIn}

-- ---- one record

-- "records of eight bytes: sign .., spare (one byte, 0), lot a, lot b, next (two bytes each)": the record of a term, with its next.
unfoldable pub term_record : Term → ℕ → List ℕ
term_record t next = sign_of t ∷ 0 ∷ two_bytes (first_lot t) ++ two_bytes (second_lot t) ++ two_bytes next

-- ---- chains, the first record of which has the number r

-- "zero ends the chain", "Zero: the condition has no term": the record where the terms ts begin, from record r on; zero where there is none.
abbrev pub first_record : ℕ → List Term → ℕ
first_record r [] = 0
first_record r (t ∷ ts) = r

-- "in chain order, .. each chain running through neighbouring numbers": the records of one chain.
unfoldable pub chain_records : ℕ → List Term → List ℕ
chain_records r [] = []
chain_records r (t ∷ ts) = term_record t (first_record (suc r) ts) ++ chain_records (suc r) ts

-- "the records of condition 1 first, .. then condition 2, and so on": the records of all chains,
unfoldable pub sheet_records : ℕ → List (List Term) → List ℕ
sheet_records r [] = []
sheet_records r (ts ∷ tss) = chain_records r ts ++ sheet_records (r + length ts) tss

-- and their heads: "two bytes each: the record number of the condition's first term".
unfoldable pub heads_from : ℕ → List (List Term) → List ℕ
heads_from r [] = []
heads_from r (ts ∷ tss) = two_bytes (first_record r ts) ++ heads_from (r + length ts) tss

-- ---- the sheet

-- "Bytes 0 to 5: lots n .., conditions m .., term records k .., two bytes each", then "m heads", then "k records".
unfoldable pub canonical : ℕ → List (List Term) → List ℕ
canonical n tss =
    two_bytes n ++ two_bytes (length tss) ++ two_bytes (length (flatten tss)) ++ heads_from 1 tss ++ sheet_records 1 tss

-- "The length is 6 + 2m + 8k."
abbrev pub canonical_length : List (List Term) → ℕ
canonical_length tss = sheet_length (length tss) (length (flatten tss))

-- ---- what a sheet can say

-- "lots n (at most 128), conditions m (at most 256), term records k (at most 1,024)", and every term of every condition names lots that it may.
pub record Within (n : ℕ) (tss : List (List Term)) : Type 0 where
  pub lots : n ≤ most_lots
  pub conditions : length tss ≤ most_conditions
  pub records : length (flatten tss) ≤ most_records
  pub terms : All (All (TermIn n)) tss
