-- The starred sheets of document 01, "Sheets to try", and some with withdrawn conditions and vacant records (document 02, job 2), each with the buffers lent
-- and what they hold afterwards. Every buffer is filled with 170 and longer than needed, but for the store of the row that is to be full, so that what must
-- stay untouched is seen to.
use Rattle.std.specs.Prelude.{ℕ, List, [], ◌∷◌, replicate}
use Rattle.sheet.specs.Answers.{Answer, refused, answered}

-- The sheet's bytes, grouping and store as lent; the answer, grouping and store afterwards.
pub record Row : Type 0 where
  pub sheet : List ℕ
  pub grouping : List ℕ
  pub store : List ℕ
  pub answer : Answer
  pub grouping_after : List ℕ
  pub store_after : List ℕ

-- Met and cannot, with the count of records.
abbrev pub met_with : ℕ → Answer
met_with count = answered 1 count 0

abbrev pub cannot_with : ℕ → Answer
cannot_with count = answered 2 count 0

-- ---- the sheets: header, heads, then a record a line

unfoldable pub sheet_a : List ℕ
sheet_a =
    3 ∷ 0 ∷ 3 ∷ 0 ∷ 3 ∷ 0 ∷
    1 ∷ 0 ∷ 2 ∷ 0 ∷ 3 ∷ 0 ∷
    1 ∷ 0 ∷ 1 ∷ 0 ∷ 2 ∷ 0 ∷ 0 ∷ 0 ∷
    1 ∷ 0 ∷ 2 ∷ 0 ∷ 3 ∷ 0 ∷ 0 ∷ 0 ∷
    2 ∷ 0 ∷ 1 ∷ 0 ∷ 3 ∷ 0 ∷ 0 ∷ 0 ∷ []

unfoldable pub sheet_b : List ℕ
sheet_b =
    3 ∷ 0 ∷ 3 ∷ 0 ∷ 6 ∷ 0 ∷
    1 ∷ 0 ∷ 3 ∷ 0 ∷ 6 ∷ 0 ∷
    1 ∷ 0 ∷ 1 ∷ 0 ∷ 2 ∷ 0 ∷ 2 ∷ 0 ∷
    2 ∷ 0 ∷ 2 ∷ 0 ∷ 3 ∷ 0 ∷ 0 ∷ 0 ∷
    1 ∷ 0 ∷ 1 ∷ 0 ∷ 3 ∷ 0 ∷ 4 ∷ 0 ∷
    2 ∷ 0 ∷ 1 ∷ 0 ∷ 2 ∷ 0 ∷ 5 ∷ 0 ∷
    1 ∷ 0 ∷ 2 ∷ 0 ∷ 3 ∷ 0 ∷ 0 ∷ 0 ∷
    2 ∷ 0 ∷ 1 ∷ 0 ∷ 3 ∷ 0 ∷ 0 ∷ 0 ∷ []

unfoldable pub sheet_c : List ℕ
sheet_c =
    3 ∷ 0 ∷ 2 ∷ 0 ∷ 3 ∷ 0 ∷
    1 ∷ 0 ∷ 3 ∷ 0 ∷
    1 ∷ 0 ∷ 1 ∷ 0 ∷ 2 ∷ 0 ∷ 2 ∷ 0 ∷
    1 ∷ 0 ∷ 1 ∷ 0 ∷ 3 ∷ 0 ∷ 0 ∷ 0 ∷
    2 ∷ 0 ∷ 1 ∷ 0 ∷ 2 ∷ 0 ∷ 0 ∷ 0 ∷ []

unfoldable pub sheet_d : List ℕ
sheet_d =
    3 ∷ 0 ∷ 4 ∷ 0 ∷ 9 ∷ 0 ∷
    1 ∷ 0 ∷ 4 ∷ 0 ∷ 6 ∷ 0 ∷ 8 ∷ 0 ∷
    2 ∷ 0 ∷ 1 ∷ 0 ∷ 2 ∷ 0 ∷ 2 ∷ 0 ∷
    2 ∷ 0 ∷ 2 ∷ 0 ∷ 3 ∷ 0 ∷ 3 ∷ 0 ∷
    2 ∷ 0 ∷ 3 ∷ 0 ∷ 1 ∷ 0 ∷ 0 ∷ 0 ∷
    1 ∷ 0 ∷ 1 ∷ 0 ∷ 2 ∷ 0 ∷ 5 ∷ 0 ∷
    1 ∷ 0 ∷ 2 ∷ 0 ∷ 3 ∷ 0 ∷ 0 ∷ 0 ∷
    1 ∷ 0 ∷ 1 ∷ 0 ∷ 2 ∷ 0 ∷ 7 ∷ 0 ∷
    1 ∷ 0 ∷ 3 ∷ 0 ∷ 1 ∷ 0 ∷ 0 ∷ 0 ∷
    1 ∷ 0 ∷ 2 ∷ 0 ∷ 3 ∷ 0 ∷ 9 ∷ 0 ∷
    1 ∷ 0 ∷ 3 ∷ 0 ∷ 1 ∷ 0 ∷ 0 ∷ 0 ∷ []

unfoldable pub sheet_empty : List ℕ
sheet_empty =
    0 ∷ 0 ∷ 0 ∷ 0 ∷ 0 ∷ 0 ∷ []

unfoldable pub sheet_one_head : List ℕ
sheet_one_head =
    0 ∷ 0 ∷ 1 ∷ 0 ∷ 0 ∷ 0 ∷
    0 ∷ 0 ∷ []

unfoldable pub sheet_same_same : List ℕ
sheet_same_same =
    1 ∷ 0 ∷ 1 ∷ 0 ∷ 1 ∷ 0 ∷
    1 ∷ 0 ∷
    1 ∷ 0 ∷ 1 ∷ 0 ∷ 1 ∷ 0 ∷ 0 ∷ 0 ∷ []

unfoldable pub sheet_apart_same : List ℕ
sheet_apart_same =
    1 ∷ 0 ∷ 1 ∷ 0 ∷ 1 ∷ 0 ∷
    1 ∷ 0 ∷
    2 ∷ 0 ∷ 1 ∷ 0 ∷ 1 ∷ 0 ∷ 0 ∷ 0 ∷ []

-- A with condition 1 withdrawn, and its record vacant.
unfoldable pub sheet_withdrawn : List ℕ
sheet_withdrawn =
    3 ∷ 0 ∷ 3 ∷ 0 ∷ 3 ∷ 0 ∷
    0 ∷ 0 ∷ 2 ∷ 0 ∷ 3 ∷ 0 ∷
    0 ∷ 0 ∷ 0 ∷ 0 ∷ 0 ∷ 0 ∷ 0 ∷ 0 ∷
    1 ∷ 0 ∷ 2 ∷ 0 ∷ 3 ∷ 0 ∷ 0 ∷ 0 ∷
    2 ∷ 0 ∷ 1 ∷ 0 ∷ 3 ∷ 0 ∷ 0 ∷ 0 ∷ []

-- A with withdrawn conditions 2 and 4 among its own, and a vacant record.
unfoldable pub sheet_still_cannot : List ℕ
sheet_still_cannot =
    3 ∷ 0 ∷ 5 ∷ 0 ∷ 4 ∷ 0 ∷
    1 ∷ 0 ∷ 0 ∷ 0 ∷ 2 ∷ 0 ∷ 0 ∷ 0 ∷ 4 ∷ 0 ∷
    1 ∷ 0 ∷ 1 ∷ 0 ∷ 2 ∷ 0 ∷ 0 ∷ 0 ∷
    1 ∷ 0 ∷ 2 ∷ 0 ∷ 3 ∷ 0 ∷ 0 ∷ 0 ∷
    0 ∷ 0 ∷ 0 ∷ 0 ∷ 0 ∷ 0 ∷ 0 ∷ 0 ∷
    2 ∷ 0 ∷ 1 ∷ 0 ∷ 3 ∷ 0 ∷ 0 ∷ 0 ∷ []

-- Sheets whose conditions 2 and 3 reach records that they must not: a vacant one, then one a second time; and the other way round.
unfoldable pub sheet_vacant_first : List ℕ
sheet_vacant_first =
    3 ∷ 0 ∷ 3 ∷ 0 ∷ 3 ∷ 0 ∷
    1 ∷ 0 ∷ 2 ∷ 0 ∷ 1 ∷ 0 ∷
    1 ∷ 0 ∷ 1 ∷ 0 ∷ 2 ∷ 0 ∷ 0 ∷ 0 ∷
    1 ∷ 0 ∷ 2 ∷ 0 ∷ 3 ∷ 0 ∷ 3 ∷ 0 ∷
    0 ∷ 0 ∷ 0 ∷ 0 ∷ 0 ∷ 0 ∷ 0 ∷ 0 ∷ []

unfoldable pub sheet_twice_first : List ℕ
sheet_twice_first =
    3 ∷ 0 ∷ 3 ∷ 0 ∷ 3 ∷ 0 ∷
    1 ∷ 0 ∷ 1 ∷ 0 ∷ 2 ∷ 0 ∷
    1 ∷ 0 ∷ 1 ∷ 0 ∷ 2 ∷ 0 ∷ 0 ∷ 0 ∷
    1 ∷ 0 ∷ 2 ∷ 0 ∷ 3 ∷ 0 ∷ 3 ∷ 0 ∷
    0 ∷ 0 ∷ 0 ∷ 0 ∷ 0 ∷ 0 ∷ 0 ∷ 0 ∷ []

-- A withdrawn condition whose record was not blanked; and one whose record was, but for a byte.
unfoldable pub sheet_not_blanked : List ℕ
sheet_not_blanked =
    3 ∷ 0 ∷ 1 ∷ 0 ∷ 1 ∷ 0 ∷
    0 ∷ 0 ∷
    1 ∷ 0 ∷ 1 ∷ 0 ∷ 2 ∷ 0 ∷ 0 ∷ 0 ∷ []

unfoldable pub sheet_nearly_vacant : List ℕ
sheet_nearly_vacant =
    3 ∷ 0 ∷ 1 ∷ 0 ∷ 1 ∷ 0 ∷
    0 ∷ 0 ∷
    0 ∷ 0 ∷ 0 ∷ 0 ∷ 0 ∷ 0 ∷ 0 ∷ 1 ∷ []

-- No conditions, and a vacant record.
unfoldable pub sheet_vacant_only : List ℕ
sheet_vacant_only =
    1 ∷ 0 ∷ 0 ∷ 0 ∷ 1 ∷ 0 ∷
    0 ∷ 0 ∷ 0 ∷ 0 ∷ 0 ∷ 0 ∷ 0 ∷ 0 ∷ []

-- ---- the rows

-- A: same 1 2; same 2 3; apart 1 3. Cannot, 5.
unfoldable pub row_a : Row
row_a =
    record {
      sheet = sheet_a;
      grouping = replicate 5 170;
      store = replicate 51 170;
      answer = cannot_with 5;
      grouping_after = 170 ∷ 170 ∷ 170 ∷ 170 ∷ 170 ∷ [];
      store_after =
          1 ∷ 0 ∷ 1 ∷ 0 ∷ 2 ∷ 0 ∷ 5 ∷ 0 ∷
          1 ∷ 0 ∷ 2 ∷ 0 ∷ 3 ∷ 0 ∷ 4 ∷ 0 ∷
          2 ∷ 0 ∷ 3 ∷ 0 ∷ 0 ∷ 0 ∷ 0 ∷ 0 ∷
          2 ∷ 0 ∷ 2 ∷ 0 ∷ 0 ∷ 0 ∷ 0 ∷ 0 ∷
          2 ∷ 0 ∷ 1 ∷ 0 ∷ 0 ∷ 0 ∷ 0 ∷ 0 ∷
          170 ∷ 170 ∷ 170 ∷ 170 ∷ 170 ∷ 170 ∷ 170 ∷ 170 ∷
          170 ∷ 170 ∷ 170 ∷ [];
    }

-- B: same 1 2 or apart 2 3; same 1 3 or apart 1 2 or same 2 3; apart 1 3. Met, 1 record, grouping 1 2 3.
unfoldable pub row_b : Row
row_b =
    record {
      sheet = sheet_b;
      grouping = replicate 5 170;
      store = replicate 19 170;
      answer = met_with 1;
      grouping_after = 1 ∷ 2 ∷ 3 ∷ 170 ∷ 170 ∷ [];
      store_after =
          3 ∷ 0 ∷ 0 ∷ 0 ∷ 0 ∷ 0 ∷ 0 ∷ 0 ∷
          170 ∷ 170 ∷ 170 ∷ 170 ∷ 170 ∷ 170 ∷ 170 ∷ 170 ∷
          170 ∷ 170 ∷ 170 ∷ [];
    }

-- C: same 1 2 or same 1 3; apart 1 2. Met, 4 records, grouping 1 2 1.
unfoldable pub row_c : Row
row_c =
    record {
      sheet = sheet_c;
      grouping = replicate 5 170;
      store = replicate 43 170;
      answer = met_with 4;
      grouping_after = 1 ∷ 2 ∷ 1 ∷ 170 ∷ 170 ∷ [];
      store_after =
          1 ∷ 0 ∷ 1 ∷ 0 ∷ 2 ∷ 0 ∷ 3 ∷ 0 ∷
          2 ∷ 0 ∷ 2 ∷ 0 ∷ 0 ∷ 0 ∷ 0 ∷ 0 ∷
          1 ∷ 0 ∷ 1 ∷ 0 ∷ 3 ∷ 0 ∷ 0 ∷ 0 ∷
          3 ∷ 0 ∷ 0 ∷ 0 ∷ 0 ∷ 0 ∷ 0 ∷ 0 ∷
          170 ∷ 170 ∷ 170 ∷ 170 ∷ 170 ∷ 170 ∷ 170 ∷ 170 ∷
          170 ∷ 170 ∷ 170 ∷ [];
    }

-- C with S = 3: refusal 9.
unfoldable pub row_full : Row
row_full =
    record {
      sheet = sheet_c;
      grouping = replicate 5 170;
      store = replicate 29 170;
      answer = refused 9 3;
      grouping_after = 170 ∷ 170 ∷ 170 ∷ 170 ∷ 170 ∷ [];
      store_after =
          0 ∷ 0 ∷ 0 ∷ 0 ∷ 0 ∷ 0 ∷ 0 ∷ 0 ∷
          0 ∷ 0 ∷ 0 ∷ 0 ∷ 0 ∷ 0 ∷ 0 ∷ 0 ∷
          0 ∷ 0 ∷ 0 ∷ 0 ∷ 0 ∷ 0 ∷ 0 ∷ 0 ∷
          170 ∷ 170 ∷ 170 ∷ 170 ∷ 170 ∷ [];
    }

-- D: apart 1 2 or apart 2 3 or apart 3 1; same 1 2 or same 2 3; same 1 2 or same 3 1; same 2 3 or same 3 1. Cannot, 7.
unfoldable pub row_d : Row
row_d =
    record {
      sheet = sheet_d;
      grouping = replicate 5 170;
      store = replicate 67 170;
      answer = cannot_with 7;
      grouping_after = 170 ∷ 170 ∷ 170 ∷ 170 ∷ 170 ∷ [];
      store_after =
          1 ∷ 0 ∷ 1 ∷ 0 ∷ 2 ∷ 0 ∷ 5 ∷ 0 ∷
          1 ∷ 0 ∷ 2 ∷ 0 ∷ 3 ∷ 0 ∷ 4 ∷ 0 ∷
          2 ∷ 0 ∷ 1 ∷ 0 ∷ 0 ∷ 0 ∷ 0 ∷ 0 ∷
          2 ∷ 0 ∷ 4 ∷ 0 ∷ 0 ∷ 0 ∷ 0 ∷ 0 ∷
          1 ∷ 0 ∷ 2 ∷ 0 ∷ 3 ∷ 0 ∷ 7 ∷ 0 ∷
          2 ∷ 0 ∷ 3 ∷ 0 ∷ 0 ∷ 0 ∷ 0 ∷ 0 ∷
          2 ∷ 0 ∷ 2 ∷ 0 ∷ 0 ∷ 0 ∷ 0 ∷ 0 ∷
          170 ∷ 170 ∷ 170 ∷ 170 ∷ 170 ∷ 170 ∷ 170 ∷ 170 ∷
          170 ∷ 170 ∷ 170 ∷ [];
    }

-- n = m = k = 0: met, 1.
unfoldable pub row_empty : Row
row_empty =
    record {
      sheet = sheet_empty;
      grouping = replicate 2 170;
      store = replicate 19 170;
      answer = met_with 1;
      grouping_after = 170 ∷ 170 ∷ [];
      store_after =
          3 ∷ 0 ∷ 0 ∷ 0 ∷ 0 ∷ 0 ∷ 0 ∷ 0 ∷
          170 ∷ 170 ∷ 170 ∷ 170 ∷ 170 ∷ 170 ∷ 170 ∷ 170 ∷
          170 ∷ 170 ∷ 170 ∷ [];
    }

-- One condition, head zero. "The starred sheet with one zero head becomes met, 1" (document 02).
unfoldable pub row_one_head : Row
row_one_head =
    record {
      sheet = sheet_one_head;
      grouping = replicate 2 170;
      store = replicate 19 170;
      answer = met_with 1;
      grouping_after = 170 ∷ 170 ∷ [];
      store_after =
          3 ∷ 0 ∷ 0 ∷ 0 ∷ 0 ∷ 0 ∷ 0 ∷ 0 ∷
          170 ∷ 170 ∷ 170 ∷ 170 ∷ 170 ∷ 170 ∷ 170 ∷ 170 ∷
          170 ∷ 170 ∷ 170 ∷ [];
    }

-- same 1 1: met, 1.
unfoldable pub row_same_same : Row
row_same_same =
    record {
      sheet = sheet_same_same;
      grouping = replicate 3 170;
      store = replicate 19 170;
      answer = met_with 1;
      grouping_after = 1 ∷ 170 ∷ 170 ∷ [];
      store_after =
          3 ∷ 0 ∷ 0 ∷ 0 ∷ 0 ∷ 0 ∷ 0 ∷ 0 ∷
          170 ∷ 170 ∷ 170 ∷ 170 ∷ 170 ∷ 170 ∷ 170 ∷ 170 ∷
          170 ∷ 170 ∷ 170 ∷ [];
    }

-- apart 1 1: cannot, 1.
unfoldable pub row_apart_same : Row
row_apart_same =
    record {
      sheet = sheet_apart_same;
      grouping = replicate 3 170;
      store = replicate 19 170;
      answer = cannot_with 1;
      grouping_after = 170 ∷ 170 ∷ 170 ∷ [];
      store_after =
          2 ∷ 0 ∷ 1 ∷ 0 ∷ 0 ∷ 0 ∷ 0 ∷ 0 ∷
          170 ∷ 170 ∷ 170 ∷ 170 ∷ 170 ∷ 170 ∷ 170 ∷ 170 ∷
          170 ∷ 170 ∷ 170 ∷ [];
    }

-- A with condition 1 withdrawn: met, 2 records, grouping 1 2 2.
unfoldable pub row_withdrawn : Row
row_withdrawn =
    record {
      sheet = sheet_withdrawn;
      grouping = replicate 5 170;
      store = replicate 19 170;
      answer = met_with 2;
      grouping_after = 1 ∷ 2 ∷ 2 ∷ 170 ∷ 170 ∷ [];
      store_after =
          1 ∷ 0 ∷ 2 ∷ 0 ∷ 3 ∷ 0 ∷ 0 ∷ 0 ∷
          3 ∷ 0 ∷ 0 ∷ 0 ∷ 0 ∷ 0 ∷ 0 ∷ 0 ∷
          170 ∷ 170 ∷ 170 ∷ [];
    }

-- A among withdrawn conditions: cannot, 5, and the grounds name the conditions by the numbers that they have kept.
unfoldable pub row_still_cannot : Row
row_still_cannot =
    record {
      sheet = sheet_still_cannot;
      grouping = replicate 5 170;
      store = replicate 43 170;
      answer = cannot_with 5;
      grouping_after = 170 ∷ 170 ∷ 170 ∷ 170 ∷ 170 ∷ [];
      store_after =
          1 ∷ 0 ∷ 1 ∷ 0 ∷ 2 ∷ 0 ∷ 5 ∷ 0 ∷
          1 ∷ 0 ∷ 2 ∷ 0 ∷ 3 ∷ 0 ∷ 4 ∷ 0 ∷
          2 ∷ 0 ∷ 5 ∷ 0 ∷ 0 ∷ 0 ∷ 0 ∷ 0 ∷
          2 ∷ 0 ∷ 3 ∷ 0 ∷ 0 ∷ 0 ∷ 0 ∷ 0 ∷
          2 ∷ 0 ∷ 1 ∷ 0 ∷ 0 ∷ 0 ∷ 0 ∷ 0 ∷
          170 ∷ 170 ∷ 170 ∷ [];
    }

-- A chain into a vacant record: refusal 17, and nothing is written.
unfoldable pub row_vacant_first : Row
row_vacant_first =
    record {
      sheet = sheet_vacant_first;
      grouping = replicate 3 170;
      store = replicate 9 170;
      answer = refused 17 3;
      grouping_after = 170 ∷ 170 ∷ 170 ∷ [];
      store_after = 170 ∷ 170 ∷ 170 ∷ 170 ∷ 170 ∷ 170 ∷ 170 ∷ 170 ∷ 170 ∷ [];
    }

-- The rows with withdrawn conditions and vacant records,
unfoldable pub withdrawn_rows : List Row
withdrawn_rows = row_withdrawn ∷ row_still_cannot ∷ row_vacant_first ∷ []

-- and the starred ones.
unfoldable pub starred_rows : List Row
starred_rows = row_a ∷ row_b ∷ row_c ∷ row_full ∷ row_d ∷ row_empty ∷ row_one_head ∷ row_same_same ∷ row_apart_same ∷ []

-- "Sheet C .. Printed": what document 01 shows, a line of it a line here.
unfoldable pub printed_c : List ℕ
printed_c =
    108 ∷ 111 ∷ 116 ∷ 115 ∷ 32 ∷ 51 ∷ 32 ∷ 99 ∷ 111 ∷ 110 ∷ 100 ∷ 105 ∷ 116 ∷ 105 ∷ 111 ∷ 110 ∷ 115 ∷ 32 ∷ 50 ∷ 32 ∷ 116 ∷ 101 ∷ 114 ∷ 109 ∷ 115 ∷ 32 ∷ 51 ∷ 10 ∷
    115 ∷ 112 ∷ 108 ∷ 105 ∷ 116 ∷ 32 ∷ 49 ∷ 32 ∷ 50 ∷ 32 ∷ 51 ∷ 10 ∷
    103 ∷ 114 ∷ 111 ∷ 117 ∷ 110 ∷ 100 ∷ 32 ∷ 50 ∷ 10 ∷
    115 ∷ 112 ∷ 108 ∷ 105 ∷ 116 ∷ 32 ∷ 49 ∷ 32 ∷ 51 ∷ 32 ∷ 48 ∷ 10 ∷
    109 ∷ 101 ∷ 116 ∷ 32 ∷ 49 ∷ 32 ∷ 50 ∷ 32 ∷ 49 ∷ 10 ∷ []

-- What is printed of A with condition 1 withdrawn: "k, read or printed, still counts" the vacant record.
unfoldable pub printed_withdrawn : List ℕ
printed_withdrawn =
    108 ∷ 111 ∷ 116 ∷ 115 ∷ 32 ∷ 51 ∷ 32 ∷ 99 ∷ 111 ∷ 110 ∷ 100 ∷ 105 ∷ 116 ∷ 105 ∷ 111 ∷ 110 ∷ 115 ∷ 32 ∷ 51 ∷ 32 ∷
    116 ∷ 101 ∷ 114 ∷ 109 ∷ 115 ∷ 32 ∷ 51 ∷ 10 ∷
    115 ∷ 112 ∷ 108 ∷ 105 ∷ 116 ∷ 32 ∷ 50 ∷ 32 ∷ 51 ∷ 32 ∷ 48 ∷ 10 ∷
    109 ∷ 101 ∷ 116 ∷ 32 ∷ 49 ∷ 32 ∷ 50 ∷ 32 ∷ 50 ∷ 10 ∷ []
