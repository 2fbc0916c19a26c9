-- A table of marks: a bit for each two classes, within bytes that have other things before and behind it. For the contracts of the code; this file states
-- nothing of document 01.
use Rattle.std.specs.Prelude.{ℕ, ◌+◌, ◌*◌, ◌-◌, ◌/◌, ◌%◌, ◌^◌, ◌≤◌, ◌<◌, Bool, false, cond, ◌&&◌, ◌||◌, List, ◌≡◌, eqb, ltb, length, get_or, set}
use Rattle.std.specs.Int.Bits.{bit_or}
use Rattle.sheet.specs.Format.{most_lots}
use Rattle.equality.specs.Node.{Decisions, marked}

-- A row has a bit for each class that can be the smaller of two,
abbrev pub row_length : ℕ
row_length = 16

-- and a table has a row for each that can be the larger.
abbrev pub table_length : ℕ
table_length = row_length * most_lots

-- Bit k of a byte, the lowest being bit 0.
abbrev pub bit_of : ℕ → ℕ → Bool
bit_of byte k = eqb (byte / 2 ^ k % 2) 1

-- The byte that has the bit of class x in the row of class y, which is the larger, in a table that begins at place `at`.
abbrev pub place : ℕ → ℕ → ℕ → ℕ
place at x y = at + row_length * (y - 1) + x / 8

-- That bit.
abbrev pub bit_at : List ℕ → ℕ → ℕ → ℕ → Bool
bit_at bytes at x y = bit_of (get_or bytes (place at x y) 0) (x % 8)

-- The bytes with that bit set.
abbrev pub with_bit : List ℕ → ℕ → ℕ → ℕ → List ℕ
with_bit bytes at x y = set bytes (place at x y) (bit_or (get_or bytes (place at x y) 0) (2 ^ (x % 8)))

-- Two classes are marked, in whichever order; one with itself is not.
abbrev pub mark_at : List ℕ → ℕ → ℕ → ℕ → Bool
mark_at bytes at x y = cond (ltb x y) (bit_at bytes at x y) (cond (ltb y x) (bit_at bytes at y x) false)

-- The bytes have room for the table.
abbrev pub Room : List ℕ → ℕ → Type 0
Room bytes at = at + table_length ≤ length bytes

-- No two classes are marked.
pub record Unmarked (bytes : List ℕ) (at : ℕ) : Type 0 where
  pub none : (x y : ℕ) → x < y → y ≤ most_lots → bit_at bytes at x y ≡ false

-- Two classes are marked exactly where some pair that is set apart has one lot in each.
pub record Marks (bytes : List ℕ) (at : ℕ) (cs : List ℕ) (ds : Decisions) : Type 0 where
  pub says : (x y : ℕ) → x < y → y ≤ most_lots → bit_at bytes at x y ≡ marked cs ds x y

-- There are as many bytes as before, and those that are not the table's are as they were.
pub record Outside (before after : List ℕ) (at : ℕ) : Type 0 where
  pub size : length after ≡ length before
  pub front : (i : ℕ) → i < at → get_or after i 0 ≡ get_or before i 0
  pub back : (i : ℕ) → at + table_length ≤ i → get_or after i 0 ≡ get_or before i 0

-- The classes x and y are marked besides those that were: no other two are marked or unmarked, and no byte outside the table is changed.
pub record MarkedToo (before after : List ℕ) (at x y : ℕ) : Type 0 where
  pub bits : (u v : ℕ) → u < v → v ≤ most_lots → bit_at after at u v ≡ ((eqb x u && eqb y v || eqb x v && eqb y u) || bit_at before at u v)
  pub outside : Outside before after at

-- So many pairs are walked over for false terms before a table is worth its marking (`WALKED`). No answer depends on it.
abbrev pub walk_limit : ℕ
walk_limit = 64
