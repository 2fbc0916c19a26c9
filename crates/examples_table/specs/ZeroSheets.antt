-- Sheets that name lot 0 (document 02, job 5), each with the buffers lent and what they hold afterwards, as in Sheets.antt.
use Rattle.std.specs.Prelude.{ℕ, suc, ◌-◌, replicate}
use mathlib.Core.List.{List, [], ◌∷◌, ◌++◌, map, flatten}
use Rattle.sheet.specs.Conditions.{count_up}
use Rattle.examples_table.specs.Sheets.{Row, met_with, cannot_with}

-- ---- the sheets: header, heads, then a record a line

-- same 0 0, of no lots: "the grouping still has n bytes", none.
unfoldable pub zero_same : List ℕ
zero_same =
    0 ∷ 0 ∷ 1 ∷ 0 ∷ 1 ∷ 0 ∷
    1 ∷ 0 ∷
    1 ∷ 0 ∷ 0 ∷ 0 ∷ 0 ∷ 0 ∷ 0 ∷ 0 ∷ []

-- apart 0 0.
unfoldable pub zero_apart : List ℕ
zero_apart =
    0 ∷ 0 ∷ 1 ∷ 0 ∷ 1 ∷ 0 ∷
    1 ∷ 0 ∷
    2 ∷ 0 ∷ 0 ∷ 0 ∷ 0 ∷ 0 ∷ 0 ∷ 0 ∷ []

-- same 0 1; apart 1 0.
unfoldable pub zero_both : List ℕ
zero_both =
    1 ∷ 0 ∷ 2 ∷ 0 ∷ 2 ∷ 0 ∷
    1 ∷ 0 ∷ 2 ∷ 0 ∷
    1 ∷ 0 ∷ 0 ∷ 0 ∷ 1 ∷ 0 ∷ 0 ∷ 0 ∷
    2 ∷ 0 ∷ 1 ∷ 0 ∷ 0 ∷ 0 ∷ 0 ∷ 0 ∷ []

-- same 2 0 or same 1 0; apart 2 1; apart 2 0.
unfoldable pub zero_met : List ℕ
zero_met =
    2 ∷ 0 ∷ 3 ∷ 0 ∷ 4 ∷ 0 ∷
    1 ∷ 0 ∷ 3 ∷ 0 ∷ 4 ∷ 0 ∷
    1 ∷ 0 ∷ 2 ∷ 0 ∷ 0 ∷ 0 ∷ 2 ∷ 0 ∷
    1 ∷ 0 ∷ 1 ∷ 0 ∷ 0 ∷ 0 ∷ 0 ∷ 0 ∷
    2 ∷ 0 ∷ 2 ∷ 0 ∷ 1 ∷ 0 ∷ 0 ∷ 0 ∷
    2 ∷ 0 ∷ 2 ∷ 0 ∷ 0 ∷ 0 ∷ 0 ∷ 0 ∷ []

-- 128 records "same" of two neighbouring lots each, the lower ones given by their place, 0 to 127. Such a record, with next 0, has the bytes of a split on its
-- pair.
abbrev pub pairs : (ℕ → ℕ) → List ℕ
pairs lower = flatten (map (λ i. 1 ∷ 0 ∷ lower i ∷ 0 ∷ suc (lower i) ∷ 0 ∷ 0 ∷ 0 ∷ []) (count_up 128 0))

-- A sheet of 128 lots with these records, each a condition of its own.
abbrev pub chained : (ℕ → ℕ) → List ℕ
chained lower = 128 ∷ 0 ∷ 128 ∷ 0 ∷ 128 ∷ 0 ∷ flatten (map (λ i. suc i ∷ 0 ∷ []) (count_up 128 0)) ++ pairs lower

-- From above: same 127 128; same 126 127; .. ; same 0 1. From below: same 0 1; same 1 2; .. ; same 127 128.
abbrev pub from_above : ℕ → ℕ
from_above i = 127 - i

abbrev pub from_below : ℕ → ℕ
from_below i = i

-- ---- the rows

-- same 0 0: met, 1.
unfoldable pub row_zero_same : Row
row_zero_same =
    record {
      sheet = zero_same;
      grouping = replicate 2 170;
      store = replicate 19 170;
      answer = met_with 1;
      grouping_after = 170 ∷ 170 ∷ [];
      store_after =
          3 ∷ 0 ∷ 0 ∷ 0 ∷ 0 ∷ 0 ∷ 0 ∷ 0 ∷
          170 ∷ 170 ∷ 170 ∷ 170 ∷ 170 ∷ 170 ∷ 170 ∷ 170 ∷
          170 ∷ 170 ∷ 170 ∷ [];
    }

-- apart 0 0: cannot, 1.
unfoldable pub row_zero_apart : Row
row_zero_apart =
    record {
      sheet = zero_apart;
      grouping = replicate 2 170;
      store = replicate 19 170;
      answer = cannot_with 1;
      grouping_after = 170 ∷ 170 ∷ [];
      store_after =
          2 ∷ 0 ∷ 1 ∷ 0 ∷ 0 ∷ 0 ∷ 0 ∷ 0 ∷
          170 ∷ 170 ∷ 170 ∷ 170 ∷ 170 ∷ 170 ∷ 170 ∷ 170 ∷
          170 ∷ 170 ∷ 170 ∷ [];
    }

-- same 0 1; apart 1 0. Split 0 1 (3), ground 2, ground 1. Cannot, 3.
unfoldable pub row_zero_both : Row
row_zero_both =
    record {
      sheet = zero_both;
      grouping = replicate 3 170;
      store = replicate 27 170;
      answer = cannot_with 3;
      grouping_after = 170 ∷ 170 ∷ 170 ∷ [];
      store_after =
          1 ∷ 0 ∷ 0 ∷ 0 ∷ 1 ∷ 0 ∷ 3 ∷ 0 ∷
          2 ∷ 0 ∷ 2 ∷ 0 ∷ 0 ∷ 0 ∷ 0 ∷ 0 ∷
          2 ∷ 0 ∷ 1 ∷ 0 ∷ 0 ∷ 0 ∷ 0 ∷ 0 ∷
          170 ∷ 170 ∷ 170 ∷ [];
    }

-- same 2 0 or same 1 0; apart 2 1; apart 2 0. Split 2 0 (3), ground 3, split 1 0, met. Grouping 0 2: lot 1 is with lot 0.
unfoldable pub row_zero_met : Row
row_zero_met =
    record {
      sheet = zero_met;
      grouping = replicate 4 170;
      store = replicate 35 170;
      answer = met_with 4;
      grouping_after = 0 ∷ 2 ∷ 170 ∷ 170 ∷ [];
      store_after =
          1 ∷ 0 ∷ 2 ∷ 0 ∷ 0 ∷ 0 ∷ 3 ∷ 0 ∷
          2 ∷ 0 ∷ 3 ∷ 0 ∷ 0 ∷ 0 ∷ 0 ∷ 0 ∷
          1 ∷ 0 ∷ 1 ∷ 0 ∷ 0 ∷ 0 ∷ 0 ∷ 0 ∷
          3 ∷ 0 ∷ 0 ∷ 0 ∷ 0 ∷ 0 ∷ 0 ∷ 0 ∷
          170 ∷ 170 ∷ 170 ∷ [];
    }

-- All lots are joined to lot 0: 128 splits, then met; the grouping has 0 for each of the 128.
unfoldable pub row_chained : (ℕ → ℕ) → Row
row_chained lower =
    record {
      sheet = chained lower;
      grouping = replicate 130 170;
      store = replicate 1035 170;
      answer = met_with 129;
      grouping_after = replicate 128 0 ++ 170 ∷ 170 ∷ [];
      store_after = pairs lower ++ 3 ∷ 0 ∷ 0 ∷ 0 ∷ 0 ∷ 0 ∷ 0 ∷ 0 ∷ 170 ∷ 170 ∷ 170 ∷ [];
    }

-- The table.
unfoldable pub zero_rows : List Row
zero_rows = row_zero_same ∷ row_zero_apart ∷ row_zero_both ∷ row_zero_met ∷ []

unfoldable pub chained_rows : List Row
chained_rows = row_chained from_above ∷ row_chained from_below ∷ []

-- What zero_met prints.
unfoldable pub printed_zero : List ℕ
printed_zero =
    -- lots 2 conditions 3 terms 4
    108 ∷ 111 ∷ 116 ∷ 115 ∷ 32 ∷ 50 ∷ 32 ∷ 99 ∷ 111 ∷ 110 ∷ 100 ∷ 105 ∷ 116 ∷ 105 ∷ 111 ∷ 110 ∷ 115 ∷ 32 ∷ 51 ∷ 32 ∷ 116 ∷ 101 ∷ 114 ∷ 109 ∷ 115 ∷ 32 ∷ 52 ∷ 10 ∷
    -- split 2 0 3
    115 ∷ 112 ∷ 108 ∷ 105 ∷ 116 ∷ 32 ∷ 50 ∷ 32 ∷ 48 ∷ 32 ∷ 51 ∷ 10 ∷
    -- ground 3
    103 ∷ 114 ∷ 111 ∷ 117 ∷ 110 ∷ 100 ∷ 32 ∷ 51 ∷ 10 ∷
    -- split 1 0 0
    115 ∷ 112 ∷ 108 ∷ 105 ∷ 116 ∷ 32 ∷ 49 ∷ 32 ∷ 48 ∷ 32 ∷ 48 ∷ 10 ∷
    -- met 0 2
    109 ∷ 101 ∷ 116 ∷ 32 ∷ 48 ∷ 32 ∷ 50 ∷ 10 ∷ []
