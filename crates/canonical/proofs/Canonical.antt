-- Theorem 0: the canonical sheet of lots and conditions within the limits is accepted, and says just these.
use Prim.Native.Nat.{ℕ}
use mathlib.Core.List.{List, [], ◌∷◌, ◌++◌, flatten}
use mathlib.Core.Path.{◌≡◌, refl}
use native.Mathlib.Omega.{arith}
use lib.ListN.{length, drop, length-append}
use Rattle.buffers.specs.Bytes.{number, two_bytes}
use Rattle.sheet.specs.Format.{header_length, lot_count, condition_count, record_count}
use Rattle.sheet.specs.Inner.{header_at, HasHeader}
use Rattle.sheet.specs.Checks.{Accepted}
use Rattle.sheet.specs.Conditions.{Term, same, apart, conditions}
use Rattle.sheet.specs.Answers.{answered, read_answer, read_answer_with}
use Rattle.canonical.specs.Canonical.{term_record, chain_records, sheet_records, heads_from, canonical, canonical_length, Within}
use Rattle.canonical.proofs.Chains.{Laid, laid_accepted, laid_conditions}
use Rattle.canonical.proofs.Places.{past, length-heads, length-records, drop_past, laid_at}

module _ (n : ℕ) (tss : List (List Term)) where
  -- It has 6 + 2m + 8k bytes:
  pub canonical-length : length (canonical n tss) ≡ canonical_length tss
  unfolding canonical two_bytes
  canonical-length = simp length-append (omega (arith, length-heads 1 tss, length-records 1 tss))

  -- behind the header the heads, then the records.
  heads_at : drop header_length (canonical n tss) ≡ heads_from 1 tss ++ sheet_records 1 tss
  unfolding canonical two_bytes
  heads_at = refl

module _ (n : ℕ) (tss : List (List Term)) (within : Within n tss) where
  -- Its header has these lots,
  pub canonical-lots : lot_count (canonical n tss) ≡ n
  unfolding canonical number two_bytes
  canonical-lots = omega arith

  -- so many conditions,
  count-conditions : condition_count (canonical n tss) ≡ length tss
  unfolding canonical number two_bytes
  count-conditions = omega arith

  -- and so many terms.
  pub canonical-records : record_count (canonical n tss) ≡ length (flatten tss)
  unfolding canonical number two_bytes
  canonical-records = omega arith

  header : HasHeader (canonical n tss) (header_at (canonical n tss))
  header =
      record {
        counts = refl;
        lots = rw canonical-lots within.lots;
        conditions = rw count-conditions within.conditions;
        records = rw canonical-records within.records;
        whole = rw (count-conditions, canonical-records) (canonical-length n tss);
      }

  -- Its heads and chains are laid one after another.
  records_at : drop (past (canonical n tss) 0) (canonical n tss) ≡ sheet_records 1 tss
  records_at =
      drop_past (canonical n tss) header_length (heads_from 1 tss) (sheet_records 1 tss) (heads_at n tss)
      (past (canonical n tss) 0) (omega (arith, count-conditions, length-heads 1 tss))

  laid : Laid (canonical n tss) 0 0 tss
  laid = laid_at (canonical n tss) n within.lots tss 0 0 (sheet_records 1 tss) within.terms (omega arith) (heads_at n tss) records_at

  -- It is accepted,
  pub canonical-accepted : Accepted (canonical n tss)
  canonical-accepted = laid_accepted (canonical n tss) tss count-conditions canonical-records laid header (rw canonical-lots within.terms)

  -- has these conditions,
  pub canonical-conditions : conditions (canonical n tss) ≡ tss
  canonical-conditions = laid_conditions (canonical n tss) tss count-conditions canonical-records laid

  -- and "the reader then answers n, m and k".
  pub canonical_read : read_answer (canonical n tss) ≡ answered n (length tss) (length (flatten tss))
  unfolding read_answer_with
  canonical_read = rw (canonical-accepted, canonical-lots, count-conditions, canonical-records)

-- Document 01's sheet C.
sheet_c_lem : canonical 3 ((same 1 2 ∷ same 1 3 ∷ []) ∷ (apart 1 2 ∷ []) ∷ [])
    ≡ 3 ∷ 0 ∷ 2 ∷ 0 ∷ 3 ∷ 0 ∷
    1 ∷ 0 ∷ 3 ∷ 0 ∷
    1 ∷ 0 ∷ 1 ∷ 0 ∷ 2 ∷ 0 ∷ 2 ∷ 0 ∷
    1 ∷ 0 ∷ 1 ∷ 0 ∷ 3 ∷ 0 ∷ 0 ∷ 0 ∷
    2 ∷ 0 ∷ 1 ∷ 0 ∷ 2 ∷ 0 ∷ 0 ∷ 0 ∷ []
unfolding canonical heads_from sheet_records chain_records term_record two_bytes flatten
sheet_c_lem = refl
