-- Two-byte numbers (document 01, "The sheet", first sentence), and the bytes that records begin with.
use Rattle.std.specs.Prelude.{ℕ, ◌+◌, ◌*◌, ◌/◌, ◌%◌, ◌<◌, List, [], ◌∷◌, ◌++◌, get_or}

-- "Two-byte numbers have the low byte first." The number at place i of the bytes s.
unfoldable pub number : List ℕ → ℕ → ℕ
number s i = get_or s i 0 + 256 * get_or s (i + 1) 0

-- The two bytes of a number.
unfoldable pub two_bytes : ℕ → List ℕ
two_bytes x = x % 256 ∷ x / 256 % 256 ∷ []

-- A number that has two bytes.
abbrev pub TwoBytes : ℕ → Type 0
TwoBytes x = x < 65536

-- The first six bytes of a record. Of a term: "sign (one byte, 1 "same", 2 "apart"), spare (one byte, 0), lot a, lot b"; of a node: "kind, spare 0 (one byte
-- each), first, second".
abbrev pub field_bytes : ℕ → ℕ → ℕ → List ℕ
field_bytes x first second = x ∷ 0 ∷ two_bytes first ++ two_bytes second
