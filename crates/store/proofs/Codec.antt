-- Node records and their bytes are one codec: what is encoded is decoded again, record by record.
use Prim.Native.Nat.{ℕ, zero, suc, ◌+◌, ◌*◌, ◌-◌, ◌/◌, ◌<◌}
use mathlib.Core.List.{List, [], ◌∷◌, ◌++◌, map, append-nil, append_assoc}
use mathlib.Core.Path.{◌≡◌, refl, sym, ap, ◌∙◌}
use native.Mathlib.Omega.{arith}
use lib.ListN.{length, get_or, length-append}
use lib.Seq.{get_or-append-add, ext_get_or}
use Rattle.buffers.specs.Bytes.{number, two_bytes}
use Rattle.buffers.proofs.Bytes.{low-high, byte_shift, number_shift}
use Rattle.sheet.specs.Conditions.{count_up}
use Rattle.buffers.specs.Lists.{All}
use Rattle.sheet.proofs.Ranges.{length_along, get_or_along}
use Rattle.store.specs.Records.{next_place, NodeRecord, split_record, ground_record, met_record, clique_record, no_record, record_length, encode, of_kind, decode, record_at, records_of, encode_all, Fits}

-- ---- lengths

pub encode-length : (r : NodeRecord) → length (encode r) ≡ record_length
unfolding encode two_bytes
encode-length (split_record a b next) = refl
encode-length (ground_record c) = refl
encode-length met_record = refl
encode-length clique_record = refl
encode-length no_record = refl

pub encode_all-length : (rs : List NodeRecord) → length (encode_all rs) ≡ record_length * length rs
unfolding encode_all
encode_all-length [] = refl
encode_all-length (r ∷ rs) = length-append (encode r) (encode_all rs) ∙ omega (arith, encode-length r, encode_all-length rs)

-- Records one after the other are bytes one after the other.
pub encode_all-append : (xs ys : List NodeRecord) → encode_all (xs ++ ys) ≡ encode_all xs ++ encode_all ys
unfolding encode_all
encode_all-append [] ys = refl
encode_all-append (x ∷ xs) ys =
    ap (λ (l : List ℕ). encode x ++ l) (encode_all-append xs ys) ∙ sym (append_assoc (encode x) (encode_all xs) (encode_all ys))

-- ---- one record

pub decode-encode : (r : NodeRecord) (rest : List ℕ) → Fits r → decode (encode r ++ rest) 0 ≡ r
unfolding decode encode two_bytes number of_kind
decode-encode (split_record a b next) rest h = simp (low-high a h.0, low-high b h.1, low-high next (omega (arith, h.2)))
decode-encode (ground_record c) rest h = simp (low-high c h)
decode-encode met_record rest h = refl
decode-encode clique_record rest h = refl
decode-encode no_record rest h = refl

-- ---- all records

module _ (p q : List ℕ) where
  -- Bytes in front do not matter.
  pub decode_shift : (i : ℕ) → decode (p ++ q) (length p + i) ≡ decode q i
  unfolding decode
  decode_shift i =
      rw (get_or-append-add p q i 0, byte_shift p q i 1, number_shift p q i 2, number_shift p q i 4, number_shift p q i next_place)

-- The record at a place, where the records' bytes come first.
pub decode_at : (rs : List NodeRecord) → All Fits rs → (rest : List ℕ) (i : ℕ) → i < length rs
    → decode (encode_all rs ++ rest) (record_length * i) ≡ get_or rs i no_record
unfolding encode_all
decode_at [] fits rest i h = absurd (omega arith)
decode_at (r ∷ rs) fits rest zero h = rw (append_assoc (encode r) (encode_all rs) rest) (decode-encode r (encode_all rs ++ rest) fits.0)
decode_at (r ∷ rs) fits rest (suc i) h =
    rw (append_assoc (encode r) (encode_all rs) rest)
    (ap (decode (encode r ++ (encode_all rs ++ rest))) place
    ∙ decode_shift (encode r) (encode_all rs ++ rest) (record_length * i)
    ∙ decode_at rs fits.1 rest i (omega arith))
  where
    place : record_length * suc i ≡ length (encode r) + record_length * i
    place = omega (arith, encode-length r)

-- What is encoded is decoded again, whatever follows it,
pub records-first : (rs : List NodeRecord) → All Fits rs → (rest : List ℕ) → map (record_at (encode_all rs ++ rest)) (count_up (length rs) 1) ≡ rs
records-first rs fits rest =
    ext_get_or no_record (map (record_at bytes) (count_up (length rs) 1)) rs
    (length_along (record_at bytes) (length rs) 1)
    (λ i h. at i (rw (length_along (record_at bytes) (length rs) 1) at h))
  where
    bytes : List ℕ
    bytes = encode_all rs ++ rest

    at : (i : ℕ) → i < length rs → get_or (map (record_at bytes) (count_up (length rs) 1)) i no_record ≡ get_or rs i no_record
    at i h =
        let place : record_length * (1 + i - 1) ≡ record_length * i = omega arith in
        get_or_along (record_at bytes) (length rs) 1 i no_record h ∙ ap (decode bytes) place ∙ decode_at rs fits rest i h

-- and as a whole list.
pub records_of_lem : (rs : List NodeRecord) → All Fits rs → records_of (encode_all rs) ≡ rs
unfolding records_of
records_of_lem rs fits = rw count (rw (append-nil (encode_all rs)) at (records-first rs fits []))
  where
    count : length (encode_all rs) / record_length ≡ length rs
    count = omega (arith, encode_all-length rs)
