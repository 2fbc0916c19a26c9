-- For the contracts of the code; this file states nothing of document 01.
use Rattle.std.specs.Prelude.{ℕ, List, map}
use Rattle.sheet.specs.Conditions.{count_up}
use Rattle.store.specs.Records.{NodeRecord, record_at}

-- The first `count` records of a store.
abbrev pub first_records : List ℕ → ℕ → List NodeRecord
first_records store count = map (record_at store) (count_up count 1)
