-- The tests on lots, with 0 and with 1 for the lowest, alike of every lot that isn't lot 0.
use Prim.Native.Nat.{ℕ, ◌≤◌}
use mathlib.Core.Bool.{Bool, true, false, not, ◌||◌}
use mathlib.Core.List.{List, [], ◌∷◌}
use mathlib.Core.Path.{◌≡◌, refl, ap, fun_ext}
use native.Mathlib.Omega.{arith}
use borrow.Author.Tests.{le-leb}
use Rattle.buffers.specs.Lists.{All}
use Rattle.sheet.specs.Verdicts.{Verdict}
use Rattle.sheet.specs.Format.{lowest_lot, lot_count, record_count, vacant, first_lot_at, second_lot_at}
use Rattle.sheet.specs.Checks.{lot_in_range, well_formed, check5, sheet_checks_with}
use Rattle.sheet.proofs.Verdicts.{lowest_agrees}
use Rattle.limit.specs.Meaning.{Limit}
use Rattle.store.specs.Records.{NodeRecord, split_record, ground_record, met_record, clique_record, no_record}
use Rattle.refutation.specs.Refutation.{Split, walk_record, walk_from}
use Rattle.zero_lot.specs.Unnamed.{NotZero, SheetNeverNames, RecordNeverNames}

-- ---- a lot

in_range : (n lot : ℕ) → NotZero lot → lot_in_range 1 n lot ≡ lot_in_range lowest_lot n lot
in_range n lot other = rw (le-leb 1 lot (omega (arith, other)), le-leb lowest_lot lot (omega arith)) refl

-- ---- a sheet's checks

module _ (s : List ℕ) (never : SheetNeverNames s) where
  record_alike : (r : ℕ) → 1 ≤ r → r ≤ record_count s → (v : Bool) → vacant s r ≡ v → (v || well_formed 1 s r) ≡ (v || well_formed lowest_lot s r)
  unfolding well_formed
  record_alike r low high true e = refl
  record_alike r low high false e =
      let (first, second) = never r low high e in
      rw (in_range (lot_count s) (first_lot_at s r) first, in_range (lot_count s) (second_lot_at s r) second)

  five_alike : check5 1 s ≡ check5 lowest_lot s
  unfolding check5
  five_alike =
      lowest_agrees 5 (λ r. not (vacant s r || well_formed 1 s r)) (λ r. not (vacant s r || well_formed lowest_lot s r)) (record_count s) 1
      (λ r low high. ap not (record_alike r low (omega arith) (vacant s r) refl))

  pub checks_alike : sheet_checks_with 1 s ≡ sheet_checks_with lowest_lot s
  unfolding sheet_checks_with
  checks_alike = rw five_alike

-- ---- the walk over a list

module _ (limit : Limit) (s : List ℕ) where
  one_alike : (r : NodeRecord) → RecordNeverNames r → (rest : List NodeRecord) (at : ℕ) (above : List Split) {walk other : ℕ → List Split → Verdict} → walk ≡ other
      → walk_record limit 1 s walk rest at above r ≡ walk_record limit lowest_lot s other rest at above r
  one_alike (split_record a b next) never rest at above e = rw (in_range (lot_count s) a never.0, in_range (lot_count s) b never.1, e)
  one_alike (ground_record c) never rest at above e = rw e
  one_alike met_record never rest at above e = refl
  one_alike clique_record never rest at above e = rw e
  one_alike no_record never rest at above e = refl

  pub walk_alike : (list : List NodeRecord) → All RecordNeverNames list → walk_from limit 1 s list ≡ walk_from limit lowest_lot s list
  unfolding walk_from
  walk_alike [] never = refl
  walk_alike (r ∷ rest) never =
      fun_ext (λ (at : ℕ). fun_ext (λ (above : List Split). one_alike r never.0 rest at above (walk_alike rest never.1)))
