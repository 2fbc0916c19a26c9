-- The bytes that the printing program writes, from those that it reads (document 01, "The printing program").
use Rattle.std.specs.Prelude.{ℕ, List, ◌++◌, take}
use Rattle.sheet.specs.Format.{lowest_lot, lot_count}
use Rattle.sheet.specs.Conditions.{conditions}
use Rattle.sheet.specs.Checks.{sheet_verdict_with}
use Rattle.equality.specs.Search.{search_tree, node_count, met_decisions, grouping_bytes}
use Rattle.outcome.specs.Nodes.{records}
use Rattle.outcome.specs.Outcome.{Result, refused_result, full_result, met_result, cannot_result, result_of}
use Rattle.lines.specs.Lines.{header_line, record_lines, refused_line, met_line, cannot_line}

-- "It reads a sheet from standard input, at most 8,711 bytes (one more than the longest sheet), with 7,000 store records."
abbrev pub most_input : ℕ
most_input = 8711

abbrev pub program_capacity : ℕ
program_capacity = 7000

-- A search's text, by what it came to.
unfoldable pub result_text : List ℕ → Result → List ℕ
result_text s (refused_result check place) = refused_line check place
result_text s (full_result capacity) = refused_line 9 capacity
result_text s (met_result tree) =
    header_line s ++ record_lines (records 1 tree) ++ met_line (grouping_bytes (lot_count s) (met_decisions tree))
result_text s (cannot_result tree) = header_line s ++ record_lines (records 1 tree) ++ cannot_line (node_count tree)

-- What the program prints for an input: where lots count from `lowest`, and as they do.
unfoldable pub printed_with : ℕ → List ℕ → List ℕ
printed_with lowest input =
    let s = take most_input input in result_text s (result_of (sheet_verdict_with lowest s) program_capacity (search_tree (conditions s)))

abbrev pub printed : List ℕ → List ℕ
printed input = printed_with lowest_lot input
