-- Where the heads and records of a canonical sheet stand in its bytes, and how many bytes they are.
use Prim.Native.Nat.{ℕ, suc, ◌+◌, ◌-◌, ◌*◌, ◌≤◌}
use mathlib.Core.List.{List, [], ◌∷◌, ◌++◌, flatten}
use mathlib.Core.Path.{◌≡◌, refl, sym, ◌∙◌}
use native.Mathlib.Omega.{arith}
use lib.ListN.{length, get_or, drop, length-append}
use lib.Seq.{drop-drop, drop-append_seam, get_or-drop}
use Rattle.buffers.specs.Bytes.{number, two_bytes}
use Rattle.buffers.proofs.Bytes.{two_bytes_lem}
use Rattle.sheet.specs.Format.{most_lots, most_records, header_length, condition_count, record_place, head_at, sign_at, spare_at, first_lot_at, second_lot_at, next_at}
use Rattle.sheet.specs.Conditions.{Term, TermIn}
use Rattle.canonical.specs.Canonical.{term_record, first_record, chain_records, sheet_records, heads_from}
use Rattle.buffers.specs.Lists.{All}
use Rattle.canonical.proofs.Chains.{RecordIs, Runs, Laid, first-within, terms-cons}

-- ---- how many

-- Eight bytes a term, in one chain and in all,
pub length-chain : (r : ℕ) (ts : List Term) → length (chain_records r ts) ≡ 8 * length ts
unfolding chain_records term_record two_bytes
length-chain r [] = refl
length-chain r (t ∷ ts) = omega (arith, length-chain (suc r) ts)

pub length-records : (r : ℕ) (tss : List (List Term)) → length (sheet_records r tss) ≡ 8 * length (flatten tss)
unfolding sheet_records flatten
length-records r [] = refl
length-records r (ts ∷ tss) = simp length-append (omega (arith, length-chain r ts, length-records (r + length ts) tss))

-- and two a condition.
pub length-heads : (r : ℕ) (tss : List (List Term)) → length (heads_from r tss) ≡ 2 * length tss
unfolding heads_from two_bytes
length-heads r [] = refl
length-heads r (ts ∷ tss) = omega (arith, length-heads (r + length ts) tss)

-- ---- from a place on

-- Where from place i on the bytes s are l:
module _ (s : List ℕ) (i : ℕ) {l : List ℕ} (from : drop i s ≡ l) where
  -- a byte that stands there,
  byte_from : (j place : ℕ) → place ≡ i + j → get_or s place 0 ≡ get_or l j 0
  byte_from j place e = rw e (sym (get_or-drop i s j 0) ∙ rw from)

  -- and a number.
  number_from : (j place : ℕ) → place ≡ i + j → number s place ≡ number l j
  unfolding number
  number_from j place e = rw (byte_from j place e, byte_from (j + 1) (place + 1) (omega arith))

-- Past the first bytes that stand there come the rest.
pub drop_past : (s : List ℕ) (i : ℕ) (first rest : List ℕ) → drop i s ≡ first ++ rest → (place : ℕ) → place ≡ i + length first → drop place s ≡ rest
drop_past s i first rest from place e = rw (e, ← drop-drop (length first) i s, from) (drop-append_seam first rest)

-- ---- what stands there

-- Where the first p records end.
abbrev pub past : List ℕ → ℕ → ℕ
past s p = header_length + 2 * condition_count s + 8 * p

module _ (s : List ℕ) (n : ℕ) (most : n ≤ most_lots) where
  -- A record,
  record_is : (p next : ℕ) (t : Term) (rest : List ℕ) → TermIn n t → next ≤ most_records → drop (past s p) s ≡ term_record t next ++ rest
      → RecordIs s (suc p) t next
  unfolding sign_at spare_at first_lot_at second_lot_at next_at term_record two_bytes number
  record_is p next t rest lots room from =
      let place = record_place (condition_count s) (suc p) in
      record {
        sign = byte_from s (past s p) from 0 place (omega arith);
        spare = byte_from s (past s p) from 1 (place + 1) (omega arith);
        first = number_from s (past s p) from 2 (place + 2) (omega arith) ∙ omega (arith, lots.0.high);
        second = number_from s (past s p) from 4 (place + 4) (omega arith) ∙ omega (arith, lots.1.high);
        after = number_from s (past s p) from 6 (place + 6) (omega arith) ∙ omega arith;
      }

  -- a chain,
  runs_at : (ts : List Term) (p : ℕ) (rest : List ℕ) → All (TermIn n) ts → p + length ts ≤ most_records → drop (past s p) s ≡ chain_records (suc p) ts ++ rest
      → Runs s p ts
  unfolding chain_records term_record two_bytes
  runs_at [] p rest lots room from = tt
  runs_at (t ∷ ts) p rest lots room from =
      let next = first_record (suc (suc p)) ts in
      let more = chain_records (suc (suc p)) ts ++ rest in (
        record_is p next t more lots.0 (omega (arith, first-within (suc p) ts)) from,
        runs_at ts (suc p) rest lots.1 (omega arith) (drop_past s (past s p) (term_record t next) more from (past s (suc p)) (omega arith)),
      )

  -- and all heads and chains.
  pub laid_at : (tss : List (List Term)) (c p : ℕ) (rest : List ℕ) → All (All (TermIn n)) tss → p + length (flatten tss) ≤ most_records
      → drop (header_length + 2 * c) s ≡ heads_from (suc p) tss ++ rest → drop (past s p) s ≡ sheet_records (suc p) tss → Laid s c p tss
  unfolding heads_from sheet_records flatten head_at two_bytes
  laid_at [] c p rest lots room heads records = tt
  laid_at (ts ∷ tss) c p rest lots room heads records =
      let e = terms-cons p ts tss in
      let first = first_record (suc p) ts in
      let more = heads_from (suc p + length ts) tss ++ rest in
      let q : suc p + length ts ≡ suc (p + length ts) = omega arith in (
        number_from s (header_length + 2 * c) heads 0 (header_length + 2 * (suc c - 1)) (omega arith) ∙ two_bytes_lem first more (omega (arith, first-within p ts)),
        runs_at ts p _ lots.0 (omega arith) records,
        laid_at tss (suc c) (p + length ts) rest lots.1 (omega arith)
            (rw (← q) (drop_past s (header_length + 2 * c) (two_bytes first) more heads (header_length + 2 * suc c) (omega arith)))
            (rw (← q) (drop_past s (past s p) (chain_records (suc p) ts) _ records (past s (p + length ts)) (omega (arith, length-chain (suc p) ts)))),
      )
