-- What the parts store, in one run: the header, and a term's record.
use Prim.Native.Nat.{ℕ, ◌+◌}
use mathlib.Core.List.{List, ◌++◌}
use mathlib.Core.Logic.{inl, inr}
use mathlib.Core.Path.{◌≡◌, refl, ap, ◌∙◌}
use lib.Seq.{sets}
use Rattle.buffers.specs.Bytes.{two_bytes, field_bytes}
use Rattle.buffers.proofs.Sets.{sets-sets}
use Rattle.sheet.specs.Conditions.{term_of}
use Rattle.canonical.specs.Canonical.{term_record}
use Rattle.writer.specs.Drafts.{KnownSign}

-- Three numbers, one after the other.
pub header-stored : (out : List ℕ) (n m k : ℕ)
    → sets (sets (sets out 0 (two_bytes n)) 2 (two_bytes m)) 4 (two_bytes k) ≡ sets out 0 (two_bytes n ++ two_bytes m ++ two_bytes k)
unfolding two_bytes
header-stored out n m k = refl

-- A term's record by its fields.
record_bytes : (sign a b next : ℕ) → KnownSign sign → field_bytes sign a b ++ two_bytes next ≡ term_record (term_of sign a b) next
unfolding two_bytes term_record
record_bytes sign a b next (inl e) = rw e
record_bytes sign a b next (inr e) = rw e

-- The fields, then the next behind them.
pub record_stored : (out : List ℕ) (place sign a b next : ℕ) → KnownSign sign
    → sets (sets out place (field_bytes sign a b)) (place + 6) (two_bytes next) ≡ sets out place (term_record (term_of sign a b) next)
unfolding two_bytes
record_stored out place sign a b next known =
    sets-sets (field_bytes sign a b) (two_bytes next) out place ∙ ap (sets out place) (record_bytes sign a b next known)
