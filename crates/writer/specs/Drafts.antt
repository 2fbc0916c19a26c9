-- A canonical sheet that is being written, part by part. For the contracts of the parts; this file states nothing of the documents.
use Rattle.std.specs.Prelude.{ℕ, ◌+◌, ◌*◌, ◌≤◌, ◌⊎◌, ◌≡◌, length}
use mathlib.Core.List.{List, [], ◌∷◌, ◌++◌, flatten}
use Rattle.std.proofs.lemmas.List.Edits.{sets}
use Rattle.buffers.specs.Bytes.{two_bytes}
use Rattle.sheet.specs.Format.{most_records, header_length, same_sign, apart_sign}
use Rattle.sheet.specs.Conditions.{Term}
use Rattle.canonical.specs.Canonical.{term_record}
use Rattle.writer.specs.declared.Writer.{Writer}

-- The bytes, and where the writer stands in them.
pub record Draft : Type 0 where
  pub bytes : List ℕ
  pub writer : Writer

abbrev pub draft : List ℕ → Writer → Draft
draft bytes writer = record { bytes = bytes; writer = writer }

-- ---- the parts

-- The header of n lots, m conditions and k terms: the heads come behind it, and the records behind the heads.
abbrev pub begun : ℕ → ℕ → ℕ → List ℕ → Draft
begun n m k out =
    draft (sets out 0 (two_bytes n ++ two_bytes m ++ two_bytes k))
    (record { head = header_length; place = header_length + 2 * m; number = record { 0 = 1 }; link = 0 })

-- One condition more, with no term yet: its head is zero.
abbrev pub with_condition : Draft → Draft
with_condition d =
    let w = d.writer in
    draft (sets d.bytes w.head (two_bytes 0)) (record { head = w.head + 2; place = w.place; number = w.number; link = w.head })

-- One term more in the latest condition: its record, with next zero, and the record's number where the condition leads on.
abbrev pub with_term : Term → Draft → Draft
with_term t d =
    let w = d.writer in
    draft (sets (sets d.bytes w.place (term_record t 0)) w.link (two_bytes w.number.0))
    (record { head = w.head; place = w.place + 8; number = record { 0 = w.number.0 + 1 }; link = w.place + 6 })

-- Terms more, and conditions more, each with its terms.
unfoldable pub with_terms : List Term → Draft → Draft
with_terms [] d = d
with_terms (t ∷ ts) d = with_terms ts (with_term t d)

unfoldable pub with_conditions : List (List Term) → Draft → Draft
with_conditions [] d = d
with_conditions (ts ∷ tss) d = with_conditions tss (with_terms ts (with_condition d))

-- ---- what the parts ask of their callers

abbrev pub KnownSign : ℕ → Type 0
KnownSign sign = (sign ≡ same_sign) ⊎ (sign ≡ apart_sign)

-- There is room for c conditions and k terms more. The heads stand before the records, and so does what leads on to the next term.
pub record RoomFor (c k : ℕ) (d : Draft) : Type 0 where
  pub heads : d.writer.head + 2 * c ≤ d.writer.place
  pub leads : d.writer.link + 2 ≤ d.writer.place
  pub records : d.writer.place + 8 * k ≤ length d.bytes
  pub numbers : d.writer.number.0 + k ≤ most_records + 1

-- Room for these conditions and all their terms.
abbrev pub RoomForAll : List (List Term) → Draft → Type 0
RoomForAll tss d = RoomFor (length tss) (length (flatten tss)) d
