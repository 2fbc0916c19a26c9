-- Lines of text: decimal numbers, words, and fields parted by one space; and the lines that are printed of a search (document 01, "The printing program").
use Rattle.std.specs.Prelude.{ℕ, zero, suc, ◌+◌, ◌/◌, ◌%◌, true, false, List, [], ◌∷◌, ◌++◌, map, ltb}
use Rattle.sheet.specs.Format.{lot_count, condition_count, record_count}
use Rattle.store.specs.Records.{NodeRecord, split_record, ground_record, met_record, clique_record, no_record}

-- "numbers in decimal": a number's digits in ASCII, 48 being '0'. A number has no more digits than one more
-- than itself, so `fuel` above the number is enough, and never decides.
unfoldable pub digits : ℕ → ℕ → List ℕ
digits zero x = []
digits (suc fuel) x = elim (ltb x 10) [ true ↦ (48 + x) ∷ [] | false ↦ digits fuel (x / 10) ++ (48 + x % 10) ∷ [] ]

unfoldable pub decimal : ℕ → List ℕ
decimal x = digits (suc x) x

-- "One space parts the fields of a line, and each line ends with byte 10 (decimal)."
unfoldable pub line : List ℕ → List (List ℕ) → List ℕ
line field [] = field ++ 10 ∷ []
line field (next ∷ fields) = field ++ 32 ∷ line next fields

-- The words, in ASCII.
abbrev pub lots_word : List ℕ
lots_word = 108 ∷ 111 ∷ 116 ∷ 115 ∷ []

abbrev pub conditions_word : List ℕ
conditions_word = 99 ∷ 111 ∷ 110 ∷ 100 ∷ 105 ∷ 116 ∷ 105 ∷ 111 ∷ 110 ∷ 115 ∷ []

abbrev pub terms_word : List ℕ
terms_word = 116 ∷ 101 ∷ 114 ∷ 109 ∷ 115 ∷ []

abbrev pub split_word : List ℕ
split_word = 115 ∷ 112 ∷ 108 ∷ 105 ∷ 116 ∷ []

abbrev pub ground_word : List ℕ
ground_word = 103 ∷ 114 ∷ 111 ∷ 117 ∷ 110 ∷ 100 ∷ []

abbrev pub met_word : List ℕ
met_word = 109 ∷ 101 ∷ 116 ∷ []

abbrev pub cannot_word : List ℕ
cannot_word = 99 ∷ 97 ∷ 110 ∷ 110 ∷ 111 ∷ 116 ∷ []

abbrev pub refused_word : List ℕ
refused_word = 114 ∷ 101 ∷ 102 ∷ 117 ∷ 115 ∷ 101 ∷ 100 ∷ []

-- ---- the lines of a search

-- "First line: lots, conditions and terms, each word followed by its number n, m or k."
unfoldable pub header_line : List ℕ → List ℕ
header_line s =
    line lots_word
    (decimal (lot_count s) ∷ conditions_word ∷ decimal (condition_count s) ∷ terms_word ∷ decimal (record_count s) ∷ [])

-- "a line per split (split, two lots, next) and per ground (ground, condition)"; the met record has no line of its own, and of a
-- clique there is none to print: the program searches without a limit.
unfoldable pub record_line : NodeRecord → List ℕ
record_line (split_record a b next) = line split_word (decimal a ∷ decimal b ∷ decimal next ∷ [])
record_line (ground_record c) = line ground_word (decimal c ∷ [])
record_line met_record = []
record_line clique_record = []
record_line no_record = []

-- "Then, in record order"
unfoldable pub record_lines : List NodeRecord → List ℕ
record_lines [] = []
record_lines (r ∷ rs) = record_line r ++ record_lines rs

-- "A refusal prints only refused, number, place."
unfoldable pub refused_line : ℕ → ℕ → List ℕ
refused_line check place = line refused_word (decimal check ∷ decimal place ∷ [])

-- "then met and the n grouping bytes, or cannot and c"
unfoldable pub met_line : List ℕ → List ℕ
met_line grouping = line met_word (map decimal grouping)

unfoldable pub cannot_line : ℕ → List ℕ
cannot_line count = line cannot_word (decimal count ∷ [])
