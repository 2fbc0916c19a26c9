-- Withdrawing a condition of a sheet (document 02, job 2): what is done to its bytes.
use Rattle.std.specs.Prelude.{ℕ, zero, suc, ◌+◌, ◌*◌, ◌-◌, List, [], ◌∷◌, set}
use Rattle.sheet.specs.Format.{header_length, condition_count, head_at, record_place}
use Rattle.sheet.specs.Conditions.{records_from}

-- `count` bytes, from place p on, are made zero.
unfoldable pub zeroed : ℕ → ℕ → List ℕ → List ℕ
zeroed zero p s = s
zeroed (suc count) p s = zeroed count (suc p) (set s p 0)

-- "Its old records are blanked to eight zero bytes": records of a sheet with m conditions.
unfoldable pub blanked : ℕ → List ℕ → List ℕ → List ℕ
blanked m [] s = s
blanked m (r ∷ rs) s = blanked m rs (zeroed 8 (record_place m r) s)

-- "setting its head to zero": that of condition c. Its old records are those of its chain.
unfoldable pub withdraw : List ℕ → ℕ → List ℕ
withdraw s c = blanked (condition_count s) (records_from s (head_at s c)) (zeroed 2 (header_length + 2 * (c - 1)) s)
