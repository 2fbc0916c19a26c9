-- "Checks 5 and 11 admit lot 0." (document 02, job 5): 11 passes every split whose lots are at most n, lot 0 in either field or in both.
use Prim.Native.Nat.{ℕ, suc, ◌≤◌}
use mathlib.Core.Bool.{true}
use mathlib.Core.List.{List, ◌∷◌}
use mathlib.Core.Path.{◌≡◌}
use native.Mathlib.Omega.{arith}
use lib.Dec.{leb}
use lib.ListN.{length}
use Rattle.sheet.specs.Format.{lowest_lot, lot_count}
use Rattle.sheet.specs.Checks.{or_else, refuses_if, lot_in_range}
use Rattle.sheet.specs.Conditions.{same}
use Rattle.sheet.specs.Verdicts.{Verdict}
use Rattle.sheet.proofs.Accepted.{lot_in}
use Rattle.limit.specs.Meaning.{Limit}
use Rattle.store.specs.Records.{NodeRecord, split_record}
use Rattle.refutation.specs.Refutation.{Split, most_splits, walk_record}

every_lot : (n lot : ℕ) → lot ≤ n → lot_in_range lowest_lot n lot ≡ true
every_lot n lot high = (lot_in n lot).1 (record { low = omega arith; high = high })

pub split_admitted : (limit : Limit) (s : List ℕ) (walk_rest : ℕ → List Split → Verdict) (rest : List NodeRecord) (at : ℕ) (above : List Split) (a b next : ℕ)
    → a ≤ lot_count s → b ≤ lot_count s
    → walk_record limit lowest_lot s walk_rest rest at above (split_record a b next)
    ≡ or_else (refuses_if (leb (most_splits limit) (length above)) 15 at) (walk_rest (suc at) (record { number = at; next = next; decision = same a b } ∷ above))
split_admitted limit s walk_rest rest at above a b next first second = rw (every_lot (lot_count s) a first, every_lot (lot_count s) b second)
