-- Node records: one per node visited, and their bytes (document 01, "The node store").
use Rattle.std.specs.Prelude.{ℕ, zero, suc, ◌+◌, ◌*◌, ◌-◌, ◌/◌, min, ◌≤◌, Bool, cond, ◌&&◌, List, [], ◌∷◌, ◌++◌, map, eqb, length, get_or}
use Rattle.std.proofs.lemmas.List.Edits.{sets}
use Rattle.buffers.specs.Bytes.{number, two_bytes, TwoBytes}
use Rattle.sheet.specs.Conditions.{count_up}

-- "Kind 1 split: lots a and b. Kind 2 ground: the condition, then 0. Kind 3 met: 0, 0. Kind 0 and kinds 4 to 255 are none of these.", but that since document
-- 02, job 7, a clique is "kind 4, other fields 0"; where there is no limit a list may have none. A split has its next besides; "Grounds and met have next 0."
-- Bytes that are none of the four are `no_record`.
pub data NodeRecord : Type 0 where
  split_record : ℕ → ℕ → ℕ → NodeRecord
  ground_record : ℕ → NodeRecord
  met_record : NodeRecord
  clique_record : NodeRecord
  no_record : NodeRecord

-- ---- a record's bytes

-- "One record of eight bytes per node visited"
abbrev pub record_length : ℕ
record_length = 8

-- The next of a record: where it stands, its bytes, and the most that it can be. Nothing else says any of these.
abbrev pub next_place : ℕ
next_place = 6

abbrev pub next_bytes : ℕ → List ℕ
next_bytes next = two_bytes next

abbrev pub next_in : List ℕ → ℕ → ℕ
next_in list i = number list (i + next_place)

abbrev pub most_next : ℕ
most_next = 65535

-- "kind, spare 0 (one byte each), first, second, next (two bytes each)"
abbrev pub fields : ℕ → ℕ → ℕ → ℕ → List ℕ
fields kind first second next = kind ∷ 0 ∷ two_bytes first ++ two_bytes second ++ next_bytes next

-- Nothing writes `no_record`; it has the bytes of kind 0 here so that every record has some.
unfoldable pub encode : NodeRecord → List ℕ
encode (split_record a b next) = fields 1 a b next
encode (ground_record c) = fields 2 c 0 0
encode met_record = fields 3 0 0 0
encode clique_record = fields 4 0 0 0
encode no_record = fields 0 0 0 0

-- The numbers of a record have their bytes.
abbrev pub Fits : NodeRecord → Type 0
Fits (split_record a b next) = TwoBytes a × TwoBytes b × (next ≤ most_next)
Fits (ground_record c) = TwoBytes c
Fits met_record = Unit {0}
Fits clique_record = Unit {0}
Fits no_record = Unit {0}

-- The record of these fields, where those that have to be 0 are.
abbrev pub record_if : Bool → NodeRecord → NodeRecord
record_if zeros record' = cond zeros record' no_record

unfoldable pub of_kind : ℕ → ℕ → ℕ → ℕ → ℕ → NodeRecord
of_kind zero spare first second next = no_record
of_kind (suc zero) spare first second next = record_if (eqb spare 0) (split_record first second next)
of_kind (suc (suc zero)) spare first second next = record_if (eqb spare 0 && eqb second 0 && eqb next 0) (ground_record first)
of_kind (suc (suc (suc zero))) spare first second next =
    record_if (eqb spare 0 && eqb first 0 && eqb second 0 && eqb next 0) met_record
of_kind (suc (suc (suc (suc zero)))) spare first second next =
    record_if (eqb spare 0 && eqb first 0 && eqb second 0 && eqb next 0) clique_record
of_kind (suc (suc (suc (suc (suc kind))))) spare first second next = no_record

-- The record whose bytes begin at place i.
unfoldable pub decode : List ℕ → ℕ → NodeRecord
decode list i = of_kind (get_or list i 0) (get_or list (i + 1) 0) (number list (i + 2)) (number list (i + 4)) (next_in list i)

-- Record r of a list of records, "numbered from 1", and all of them.
abbrev pub record_at : List ℕ → ℕ → NodeRecord
record_at list r = decode list (record_length * (r - 1))

unfoldable pub records_of : List ℕ → List NodeRecord
records_of list = map (record_at list) (count_up (length list / record_length) 1)

-- The next of record `number`, set after the record was written: it "is the record where that second branch begins".
abbrev pub set_next : List ℕ → ℕ → ℕ → List ℕ
set_next store number next = sets store (record_length * (number - 1) + next_place) (next_bytes next)

-- The bytes of records, one after the other.
unfoldable pub encode_all : List NodeRecord → List ℕ
encode_all [] = []
encode_all (r ∷ rs) = encode r ++ encode_all rs

-- ---- the store's room

-- The most records that a store or a list has.
abbrev pub most_nodes : ℕ
most_nodes = 65535

-- "The store holds S records: its length divided by 8, rounded down, at most 65,535."
abbrev pub capacity : List ℕ → ℕ
capacity store = min (length store / record_length) most_nodes
