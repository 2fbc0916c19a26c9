-- What the parts come to: the bytes of the canonical sheet, and behind them what was there.
use Prim.Native.Nat.{ℕ, ◌+◌, ◌*◌, ◌≤◌}
use mathlib.Core.List.{List, [], ◌∷◌, ◌++◌, flatten, append-nil}
use mathlib.Core.Path.{◌≡◌, refl, sym, ap, ◌∙◌}
use native.Mathlib.Nat.{zero-add}
use native.Mathlib.Numerals.{add-one}
use native.Mathlib.Omega.{arith}
use lib.ListN.{length, length-append}
use lib.Seq.{sets, sets-eq}
use Rattle.buffers.specs.Bytes.{two_bytes, field_bytes}
use Rattle.buffers.specs.Written.{written}
use Rattle.buffers.proofs.Sets.{sets-sets, sets-before, sets-again, sets_end}
use Rattle.sheet.specs.Format.{header_length}
use Rattle.sheet.specs.Conditions.{Term, sign_of, first_lot, second_lot}
use Rattle.canonical.specs.Canonical.{term_record, first_record, chain_records, sheet_records, heads_from, canonical, canonical_length}
use Rattle.canonical.proofs.Places.{length-chain, length-heads}
use Rattle.canonical.proofs.Canonical.{canonical-length}
use Rattle.writer.specs.Drafts.{Draft, begun, with_condition, with_term, with_terms, with_conditions}

-- ---- one condition

-- A record whose next is set after it was written without one.
next-set : (l : List ℕ) (place : ℕ) (t : Term) (next : ℕ) → sets (sets l place (term_record t 0)) (place + 6) (two_bytes next) ≡ sets l place (term_record t next)
unfolding term_record two_bytes
next-set l place t next = sets_end (field_bytes (sign_of t) (first_lot t) (second_lot t)) (two_bytes 0) (two_bytes next) l place refl

-- Records behind one.
record_then : (l : List ℕ) (place : ℕ) (t : Term) (next : ℕ) (rest : List ℕ)
    → sets (sets l place (term_record t next)) (place + 8) rest ≡ sets l place (term_record t next ++ rest)
unfolding term_record two_bytes
record_then l place t next rest = sets-sets (term_record t next) rest l place

-- The bytes with the number of the next record where the condition leads on.
abbrev led : Draft → List ℕ
led d = sets d.bytes d.writer.link (two_bytes d.writer.number.0)

-- One term: its record comes behind that.
term_stored : (t : Term) (d : Draft) → d.writer.link + 2 ≤ d.writer.place → (with_term t d).bytes ≡ sets (led d) d.writer.place (term_record t 0)
unfolding two_bytes
term_stored t d leads = sets-before (two_bytes d.writer.number.0) (term_record t 0) d.bytes d.writer.link d.writer.place leads

-- A term and those after it.
terms-stored : (t : Term) (ts : List Term) (d : Draft) → d.writer.link + 2 ≤ d.writer.place
    → (with_terms (t ∷ ts) d).bytes ≡ sets (led d) d.writer.place (chain_records d.writer.number.0 (t ∷ ts))
unfolding with_terms chain_records
terms-stored t [] d leads = term_stored t d leads ∙ ap (sets (led d) d.writer.place) (sym (append-nil (term_record t 0)))
terms-stored t (u ∷ us) d leads =
    let place = d.writer.place in
    let number = d.writer.number.0 in
    let rest = chain_records (number + 1) (u ∷ us) in
    terms-stored u us (with_term t d) (omega arith)
    ∙ ap (λ (l : List ℕ). sets (sets l (place + 6) (two_bytes (number + 1))) (place + 8) rest) (term_stored t d leads)
    ∙ ap (λ (l : List ℕ). sets l (place + 8) rest) (next-set (led d) place t (number + 1))
    ∙ record_then (led d) place t (number + 1) rest
    ∙ ap (λ (x : ℕ). sets (led d) place (term_record t x ++ chain_records x (u ∷ us))) (add-one number)

-- A whole condition: its head, and its records.
condition-stored : (ts : List Term) (d : Draft) → d.writer.head + 2 ≤ d.writer.place
    → (with_terms ts (with_condition d)).bytes
    ≡ sets (sets d.bytes d.writer.head (two_bytes (first_record d.writer.number.0 ts))) d.writer.place (chain_records d.writer.number.0 ts)
unfolding with_terms chain_records two_bytes
condition-stored [] d heads = refl
condition-stored (t ∷ ts) d heads =
    let number = d.writer.number.0 in
    terms-stored t ts (with_condition d) heads
    ∙ ap (λ (l : List ℕ). sets l d.writer.place (chain_records number (t ∷ ts)))
    (sets-again (two_bytes 0) (two_bytes number) d.bytes d.writer.head refl)

-- ---- condition after condition

-- Where the writer stands after terms.
terms-head : (ts : List Term) (d : Draft) → (with_terms ts d).writer.head ≡ d.writer.head
unfolding with_terms
terms-head [] d = refl
terms-head (t ∷ ts) d = terms-head ts (with_term t d)

terms-place : (ts : List Term) (d : Draft) → (with_terms ts d).writer.place ≡ d.writer.place + 8 * length ts
unfolding with_terms
terms-place [] d = omega arith
terms-place (t ∷ ts) d = omega (arith, terms-place ts (with_term t d))

terms-number : (ts : List Term) (d : Draft) → (with_terms ts d).writer.number.0 ≡ d.writer.number.0 + length ts
unfolding with_terms
terms-number [] d = omega arith
terms-number (t ∷ ts) d = omega (arith, terms-number ts (with_term t d))

-- Of a head, a chain, further heads and further records: the heads stand together, and the records behind them.
in_place : (l first others chain rest : List ℕ) (head next place after : ℕ)
    → next ≡ head + length first → after ≡ place + length chain → next + length others ≤ place
    → sets (sets (sets (sets l head first) place chain) next others) after rest ≡ sets (sets l head (first ++ others)) place (chain ++ rest)
in_place l first others chain rest head next place after e f h =
    ap (λ (b : List ℕ). sets b after rest) (sets-before others chain (sets l head first) next place h)
    ∙ rw (e, f) (sets-sets chain rest (sets (sets l head first) (head + length first) others) place)
    ∙ ap (λ (b : List ℕ). sets b place (chain ++ rest)) (sets-sets first others l head)

-- The heads, and the records.
conditions-stored : (tss : List (List Term)) (d : Draft) → d.writer.head + 2 * length tss ≤ d.writer.place
    → (with_conditions tss d).bytes
    ≡ sets (sets d.bytes d.writer.head (heads_from d.writer.number.0 tss)) d.writer.place (sheet_records d.writer.number.0 tss)
unfolding with_conditions heads_from sheet_records two_bytes
conditions-stored [] d heads = refl
conditions-stored (ts ∷ tss) d heads =
    let w = d.writer in
    let number = w.number.0 in
    let begun = with_condition d in
    let others = heads_from (number + length ts) tss in
    conditions-stored tss (with_terms ts begun) (omega (arith, terms-head ts begun, terms-place ts begun))
    ∙ rw (terms-head ts begun, terms-place ts begun, terms-number ts begun, condition-stored ts d (omega arith))
    (in_place d.bytes (two_bytes (first_record number ts)) others (chain_records number ts) (sheet_records (number + length ts) tss)
    w.head (w.head + 2) w.place (w.place + 8 * length ts) refl
    (omega (arith, length-chain number ts)) (omega (arith, length-heads (number + length ts) tss)))

-- ---- the sheet

module _ (n : ℕ) (tss : List (List Term)) (out : List ℕ) where
  -- Header, heads and records, one behind the other,
  all_stored : (with_conditions tss (begun n (length tss) (length (flatten tss)) out)).bytes ≡ sets out 0 (canonical n tss)
  unfolding canonical two_bytes
  all_stored =
      let header = two_bytes n ++ two_bytes (length tss) ++ two_bytes (length (flatten tss)) in
      let heads = heads_from 1 tss in
      let place : header_length + 2 * length tss ≡ 0 + length (header ++ heads) = omega (arith, length-append header heads, length-heads 1 tss) in
      conditions-stored tss (begun n (length tss) (length (flatten tss)) out) (omega arith)
      ∙ ap (λ (b : List ℕ). sets b (header_length + 2 * length tss) (sheet_records 1 tss)) (sets-sets header heads out 0)
      ∙ rw place (sets-sets (header ++ heads) (sheet_records 1 tss) out 0)

  -- are the canonical sheet at the start of the output.
  pub whole : canonical_length tss ≤ length out
      → (with_conditions tss (begun n (length tss) (length (flatten tss)) out)).bytes ≡ written (canonical n tss) out
  whole room =
      all_stored
      ∙ rw (zero-add (length (canonical n tss))) at (sets-eq (canonical n tss) out 0 (omega (arith, canonical-length n tss)))
