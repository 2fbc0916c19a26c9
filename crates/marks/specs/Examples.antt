-- Where the bits of a table stand, and which of them a pair sets, by computation.
use Rattle.std.specs.Prelude.{ℕ, ◌+◌, true, false, List, [], ◌∷◌, map, ◌≡◌, refl, length, get_or, replicate}
use Rattle.sheet.specs.Conditions.{same, apart, count_up}
use Rattle.equality.specs.Node.{Decisions, merged, classes, marked}
use Rattle.marks.specs.Marks.{table_length, bit_of, place, with_bit, mark_at}

-- The first byte of the first row and of the next; in later rows the first byte and the second; and the byte of the last bit, which is the table's last.
pub places : place 0 0 1 ∷ place 0 0 2 ∷ place 0 7 8 ∷ place 0 8 9 ∷ (place 2048 127 128 + 1) ∷ [] ≡ 0 ∷ 16 ∷ 112 ∷ 129 ∷ (2048 + table_length) ∷ []
places = refl

-- The bits of a byte, the lowest first.
pub bits : map (bit_of 130) (count_up 8 0) ≡ false ∷ true ∷ false ∷ false ∷ false ∷ false ∷ false ∷ true ∷ []
unfolding count_up
bits = refl

-- Lots 1 and 2 are set the same, 2 and 9 apart: their classes are 1 and 9.
abbrev pub decisions : Decisions
decisions = apart 2 9 ∷ same 1 2 ∷ []

-- A table behind three other bytes, with the bit of that pair's classes set.
abbrev pub table : List ℕ
table = with_bit (replicate (3 + table_length) 0) 3 1 9

-- Classes 1 and 9 are marked, in both orders, and neither lot 2, which is no class, nor others; so says the definition of marks too.
pub asked :
    mark_at table 3 1 9 ∷ mark_at table 3 9 1 ∷ mark_at table 3 2 9 ∷ mark_at table 3 1 8 ∷ mark_at table 3 1 1 ∷ []
    ≡ true ∷ true ∷ false ∷ false ∷ false ∷ []
asked = refl

pub defined :
    marked (classes decisions) decisions 1 9 ∷ marked (classes decisions) decisions 9 1 ∷ marked (classes decisions) decisions 2 9
    ∷ marked (classes decisions) decisions 1 8 ∷ marked (classes decisions) decisions 1 1 ∷ []
    ≡ true ∷ true ∷ false ∷ false ∷ false ∷ []
unfolding merged classes marked count_up
defined = refl

-- A bit set again leaves the byte as it is, two bits of one byte stand beside each other, and no byte is added.
pub again :
    get_or (with_bit table 3 1 9) (place 3 1 9) 0 ∷ get_or (with_bit table 3 2 9) (place 3 1 9) 0 ∷ length (with_bit table 3 127 128) ∷ []
    ≡ 2 ∷ 6 ∷ (3 + table_length) ∷ []
again = refl
