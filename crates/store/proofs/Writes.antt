-- The bytes of a node record that stores leave.
use Prim.Native.Nat.{ℕ, ◌+◌, ◌*◌, ◌-◌}
use mathlib.Core.List.{List, ◌++◌}
use mathlib.Core.Path.{◌≡◌, refl, ap, ◌∙◌}
use native.Mathlib.Omega.{arith}
use lib.ListN.{length}
use lib.Seq.{sets}
use Rattle.buffers.specs.Bytes.{two_bytes, field_bytes}
use Rattle.buffers.proofs.Sets.{sets-sets, sets-before, sets_end}
use Rattle.store.specs.Records.{NodeRecord, split_record, record_length, next_place, next_bytes, set_next, fields, encode}
use Rattle.store.proofs.Codec.{encode-length}

-- The fields of a record, and its next behind them.
pub fields-stored : (l : List ℕ) (at kind first second next : ℕ)
    → sets (sets l at (field_bytes kind first second)) (at + next_place) (next_bytes next) ≡ sets l at (fields kind first second next)
unfolding two_bytes
fields-stored l at kind first second next = sets-sets (field_bytes kind first second) (next_bytes next) l at

-- Bytes after a record's.
pub after_record : (r : NodeRecord) (bytes store : List ℕ) (before : ℕ)
    → sets (sets store (record_length * before) (encode r)) (record_length * (before + 1)) bytes ≡ sets store (record_length * before) (encode r ++ bytes)
after_record r bytes store before =
    let place : record_length * (before + 1) ≡ record_length * before + length (encode r) = omega (arith, encode-length r) in
    rw place (sets-sets (encode r) bytes store (record_length * before))

-- Setting the next of a split that was written without one,
next-set : (l : List ℕ) (at a b next : ℕ)
    → sets (sets l at (encode (split_record a b 0))) (at + next_place) (next_bytes next) ≡ sets l at (encode (split_record a b next))
unfolding encode two_bytes
next-set l at a b next = sets_end (field_bytes 1 a b) (next_bytes 0) (next_bytes next) l at refl

-- once bytes were written after it.
pub next_after : (a b next : ℕ) (bytes store : List ℕ) (before : ℕ)
    → set_next (sets (sets store (record_length * before) (encode (split_record a b 0))) (record_length * (before + 1)) bytes) (before + 1) next
    ≡ sets store (record_length * before) (encode (split_record a b next) ++ bytes)
unfolding two_bytes
next_after a b next bytes store before =
    let record' = sets store (record_length * before) (encode (split_record a b 0)) in
    let number : before + 1 - 1 ≡ before = omega arith in
    rw number (sets-before (next_bytes next) bytes record' (record_length * before + next_place) (record_length * (before + 1)) (omega arith))
    ∙ ap (λ (l : List ℕ). sets l (record_length * (before + 1)) bytes) (next-set store (record_length * before) a b next)
    ∙ after_record (split_record a b next) bytes store before
