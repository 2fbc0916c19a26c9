-- How long the lines and the texts are at most: every text of the program has room in `text_room` bytes.
use Prim.Native.Nat.{ℕ, suc, ◌+◌, ◌*◌, ◌^◌, ◌≤◌, ◌<◌}
use mathlib.Core.List.{List, [], ◌∷◌, ◌++◌, map, append-nil}
use mathlib.Core.Path.{◌≡◌, ap, ◌∙◌}
use native.Mathlib.Omega.{arith}
use lib.ListN.{length, get_or, drop, length-append}
use lib.Seq.{drop-nil}
use Rattle.sheet.specs.Format.{lot_count, condition_count, record_count}
use Rattle.sheet.specs.Checks.{Accepted}
use Rattle.sheet.specs.Conditions.{conditions, InLots}
use Rattle.buffers.specs.Lists.{All}
use Rattle.sheet.proofs.Accepted.{sound}
use Rattle.equality.specs.Node.{Decisions}
use Rattle.equality.proofs.Least.{least}
use Rattle.equality.specs.Search.{node_count, search_tree, met_decisions, grouping_bytes}
use Rattle.limit.specs.Meaning.{unlimited}
use Rattle.store.specs.Records.{NodeRecord, split_record, ground_record, met_record, clique_record, no_record, Fits}
use Rattle.outcome.specs.Nodes.{records}
use Rattle.outcome.specs.Outcome.{met_result, cannot_result}
use Rattle.outcome.proofs.Fitting.{records-count, search_fits}
use Rattle.outcome.proofs.Grouping.{grouping-length, grouping-number}
use Rattle.lines.specs.Lines.{decimal, line, lots_word, conditions_word, terms_word, split_word, ground_word, met_word, cannot_word, refused_word, header_line, record_line, record_lines, refused_line, met_line, cannot_line}
use Rattle.text.specs.Program.{program_capacity, result_text}
use Rattle.buffers.specs.Written.{WroteFirst}
use Rattle.text.specs.Code.{text_room}
use Rattle.lines.proofs.Digits.{decimal_most}

-- ---- a line

-- The bytes of fields, each with the space before it.
abbrev pub spaced : List (List ℕ) → ℕ
spaced [] = 0
spaced (field ∷ fields) = suc (length field) + spaced fields

pub line-length : (field : List ℕ) (fields : List (List ℕ)) → length (line field fields) ≡ length field + spaced fields + 1
unfolding line
line-length field [] = length-append field (10 ∷ []) ∙ omega arith
line-length field (next ∷ fields) = length-append field (32 ∷ line next fields) ∙ omega (arith, line-length next fields)

-- Lots, conditions and records have five digits at most.
five_digits : (x : ℕ) → x < 100000 → length (decimal x) ≤ 5
five_digits x h = decimal_most 4 x h

pub record_line_most : (r : NodeRecord) → Fits r → length (record_line r) ≤ 24
unfolding record_line
record_line_most (split_record a b next) h =
    omega (arith, line-length split_word (decimal a ∷ decimal b ∷ decimal next ∷ []), five_digits a (omega (arith, h.0)), five_digits b (omega (arith, h.1)), five_digits next (omega (arith, h.2)))
record_line_most (ground_record c) h = omega (arith, line-length ground_word (decimal c ∷ []), five_digits c (omega (arith, h)))
record_line_most met_record h = omega arith
record_line_most clique_record h = omega arith
record_line_most no_record h = omega arith

pub record_lines_most : (rs : List NodeRecord) → All Fits rs → length (record_lines rs) ≤ 24 * length rs
unfolding record_lines
record_lines_most [] h = omega arith
record_lines_most (r ∷ rs) h =
    omega (arith, length-append (record_line r) (record_lines rs), record_line_most r h.0, record_lines_most rs h.1)

-- A refusal, whatever four-byte numbers it has.
pub refused_most : (check place : ℕ) → check < 10 ^ 10 → place < 10 ^ 10 → length (refused_line check place) ≤ text_room
unfolding refused_line
refused_most check place h k =
    omega (arith, line-length refused_word (decimal check ∷ decimal place ∷ []), decimal_most 9 check h, decimal_most 9 place k)

-- Numbers below a thousand have three digits at most.
numbers_most : (l : List ℕ) → ((i : ℕ) → i < length l → get_or l i 0 < 1000) → spaced (map decimal l) ≤ 4 * length l
numbers_most [] h = omega arith
numbers_most (x ∷ l) h =
    omega (arith, decimal_most 2 x (h 0 (omega arith)), numbers_most l (λ i k. h (suc i) (omega arith)))

-- ---- the texts of an accepted sheet's search

module _ (s : List ℕ) (ok : Accepted s) where
  header_most : length (header_line s) ≤ 40
  unfolding header_line
  header_most =
      let header = (sound s ok).header in
      omega (
        arith,
        line-length lots_word (decimal (lot_count s) ∷ conditions_word ∷ decimal (condition_count s) ∷ terms_word ∷ decimal (record_count s) ∷ []),
        five_digits (lot_count s) (omega (arith, header.lots)),
        five_digits (condition_count s) (omega (arith, header.conditions)),
        five_digits (record_count s) (omega (arith, header.records)),
      )

  -- A lot's byte is no more than the lot.
  grouping_most : (ds : Decisions) (i : ℕ) → i < length (grouping_bytes (lot_count s) ds) → get_or (grouping_bytes (lot_count s) ds) i 0 < 1000
  grouping_most ds i h =
      let lots = (sound s ok).header.lots in
      let bytes = grouping_bytes (lot_count s) ds in
      let count = grouping-length (lot_count s) ds lots in
      let within : InLots (lot_count s) (suc i) = record { low = omega arith; high = omega arith } in
      let number = rw (drop-nil (length bytes), append-nil bytes) at (grouping-number (lot_count s) ds [] lots (suc i) within) in
      omega (arith, number, least ds (suc i))

  met_line_most : (ds : Decisions) → length (met_line (grouping_bytes (lot_count s) ds)) ≤ 516
  unfolding met_line
  met_line_most ds =
      let bytes = grouping_bytes (lot_count s) ds in
      let lots = (sound s ok).header.lots in
      omega (arith, line-length met_word (map decimal bytes), numbers_most bytes (grouping_most ds), grouping-length (lot_count s) ds lots)

  module _ (few : node_count (search_tree (conditions s)) ≤ program_capacity) where
    lines_most : length (record_lines (records 1 (search_tree (conditions s)))) ≤ 24 * program_capacity
    lines_most =
        omega (arith, record_lines_most (records 1 (search_tree (conditions s))) (search_fits unlimited s ok (omega arith)), records-count 1 (search_tree (conditions s)))

    pub met_most : length (result_text s (met_result (search_tree (conditions s)))) ≤ text_room
    unfolding result_text
    met_most =
        let tree = search_tree (conditions s) in
        let rest = met_line (grouping_bytes (lot_count s) (met_decisions tree)) in
        omega (
          arith,
          length-append (header_line s ++ record_lines (records 1 tree)) rest,
          length-append (header_line s) (record_lines (records 1 tree)),
          header_most,
          lines_most,
          met_line_most (met_decisions tree),
        )

    pub cannot_most : length (result_text s (cannot_result (search_tree (conditions s)))) ≤ text_room
    unfolding result_text cannot_line
    cannot_most =
        let tree = search_tree (conditions s) in
        omega (
          arith,
          length-append (header_line s ++ record_lines (records 1 tree)) (cannot_line (node_count tree)),
          length-append (header_line s) (record_lines (records 1 tree)),
          header_most,
          lines_most,
          line-length cannot_word (decimal (node_count tree) ∷ []),
          five_digits (node_count tree) (omega arith),
        )

-- ---- a printed text

-- It stands whole in the buffer.
pub printed-within : {before after : List ℕ} {count : ℕ} {text : List ℕ} → WroteFirst before after count text → count ≤ length after
printed-within {before} {text = text} p = omega (arith, p.counted, ap length p.front, length-append text (drop (length text) before))
