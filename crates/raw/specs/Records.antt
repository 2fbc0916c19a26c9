-- Two-byte numbers and records of a buffer's bytes.
use Rattle.std.specs.Prelude.{ℕ, ◌+◌, ◌*◌, ◌/◌, ◌%◌, List, set, slice_index}
use Rattle.raw.specs.declared.Record.{Record}

-- the number that begins at a place
abbrev pub number : List ℕ → ℕ → ℕ
number bytes at = slice_index bytes at + 256 * slice_index bytes (at + 1)

-- the bytes after it is put there
abbrev pub with_number : List ℕ → ℕ → ℕ → List ℕ
with_number bytes at value = set (set bytes at (value % 256)) (at + 1) (value / 256)

-- the bytes after a record is put there
abbrev pub with_record : List ℕ → ℕ → Record → List ℕ
with_record bytes at node =
    with_number (with_number (with_number (set (set bytes at node.kind) (at + 1) node.spare) (at + 2) node.first) (at + 4) node.second) (at + 6) node.next
