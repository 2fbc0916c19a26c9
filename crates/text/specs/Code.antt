-- For the contracts of the code; this file states nothing of document 01.
use Rattle.std.specs.Prelude.{ℕ, ◌*◌, ◌≤◌, List, ◌++◌, ◌≡◌, length, take}
use Rattle.sheet.specs.Format.{most_lots, header_length, lot_count}
use Rattle.store.specs.Records.{record_length, capacity}
use Rattle.lines.specs.Lines.{header_line, record_lines, met_line, cannot_line}
use Rattle.lines.specs.Code.{first_records}
use Rattle.text.specs.Program.{most_input, program_capacity}

-- The text of a search that met the sheet, and of one that could not, from what it left in the grouping and in the store.
abbrev pub met_text : List ℕ → ℕ → List ℕ → List ℕ → List ℕ
met_text s count grouping store = header_line s ++ record_lines (first_records store count) ++ met_line (take (lot_count s) grouping)

abbrev pub cannot_text : List ℕ → ℕ → List ℕ → List ℕ
cannot_text s count store = header_line s ++ record_lines (first_records store count) ++ cannot_line count

-- The sheet has a header, and the store has `count` records.
pub record Printable (s : List ℕ) (count : ℕ) (store : List ℕ) : Type 0 where
  pub header : header_length ≤ length s
  pub whole : record_length * count ≤ length store

-- Room for every text of the program (proofs/Room).
abbrev pub text_room : ℕ
text_room = 170000

-- What the program's search is lent: a sheet of no more bytes than the program takes, and buffers of the program's room.
pub record Lent (s grouping store : List ℕ) : Type 0 where
  pub short : length s ≤ most_input
  pub lots : most_lots ≤ length grouping
  pub records : capacity store ≡ program_capacity
