-- The checks that a list can fail have numbers of at least 1, and none is 9.
use Prim.Native.Nat.{ℕ, suc, ◌/◌, ◌%◌}
use mathlib.Core.Bool.{not, ◌&&◌, ◌||◌}
use mathlib.Core.List.{List, [], ◌∷◌, ◌++◌}
use mathlib.Core.Path.{sym, subst}
use native.Mathlib.Omega.{arith}
use lib.Dec.{leb, ltb, eqb}
use lib.ListN.{length}
use Rattle.sheet.specs.Verdicts.{Verdict, Passes}
use Rattle.sheet.specs.Format.{lowest_lot, lot_count}
use Rattle.sheet.specs.Checks.{first_refusal, refuses_if, lot_in_range, sheet_verdict}
use Rattle.sheet.proofs.Further.{further}
use Rattle.sheet.proofs.Numbered.{Numbered, either, test, sheet_numbered}
use Rattle.limit.specs.Meaning.{Limit, unlimited, up_to, most_limit, check20, limit_checks}
use Rattle.limit.specs.Rule.{clique_passes}
use Rattle.store.specs.Records.{NodeRecord, split_record, ground_record, met_record, clique_record, no_record, record_length, most_nodes, records_of}
use Rattle.refutation.specs.Refutation.{Split, Nearest, no_split, same_split, turned, most_splits, decisions_of, ground_fails, nearest, must_end, after_ground, named, condition_in_range, walk_clique, walk_record, walk_from, check10, walk_verdict, list_verdict_under}

ended : (rest : List NodeRecord) (following : ℕ) → Numbered (must_end rest following)
ended [] following = tt
ended (r ∷ rest) following = (omega arith, λ e. omega arith)

module _ (limit : Limit) (s : List ℕ) (walk_rest : ℕ → List Split → Verdict) (rest : List NodeRecord) (onwards : (at : ℕ) (above : List Split) → Numbered (walk_rest at above)) where
  after : (following : ℕ) (n : Nearest) → Numbered (after_ground walk_rest rest following n)
  after following no_split = ended rest following
  after following (same_split split a b above) =
      either (refuses_if (not (eqb split.next following)) 13 split.number) (walk_rest following (turned split a b ∷ above))
      (test (not (eqb split.next following)) 13 split.number (omega arith, λ e. omega arith)) (onwards following (turned split a b ∷ above))

  one_record : (at : ℕ) (above : List Split) (r : NodeRecord) → Numbered (walk_record limit lowest_lot s walk_rest rest at above r)
  one_record at above (split_record a b next) =
      either (refuses_if (not (lot_in_range lowest_lot (lot_count s) a && lot_in_range lowest_lot (lot_count s) b)) 11 at) _
      (test (not (lot_in_range lowest_lot (lot_count s) a && lot_in_range lowest_lot (lot_count s) b)) 11 at (omega arith, λ e. omega arith))
      (either (refuses_if (leb (most_splits limit) (length above)) 15 at) _ (test (leb (most_splits limit) (length above)) 15 at (omega arith, λ e. omega arith)) (onwards (suc at) _))
  one_record at above (ground_record c) =
      either (refuses_if (not (condition_in_range s c)) 11 at) _ (test (not (condition_in_range s c)) 11 at (omega arith, λ e. omega arith))
      (either (refuses_if (ground_fails (decisions_of above) (named s c)) 12 at) _ (test (ground_fails (decisions_of above) (named s c)) 12 at (omega arith, λ e. omega arith))
      (after (suc at) (nearest above)))
  one_record at above met_record = (omega arith, λ e. omega arith)
  one_record at above clique_record = clique limit
    where
      clique : (l : Limit) → Numbered (walk_clique l (lot_count s) walk_rest rest at above)
      clique unlimited = (omega arith, λ e. omega arith)
      clique (up_to g) =
          either (refuses_if (not (clique_passes g (lot_count s) (decisions_of above))) 12 at) _
          (test (not (clique_passes g (lot_count s) (decisions_of above))) 12 at (omega arith, λ e. omega arith))
          (after (suc at) (nearest above))
  one_record at above no_record = (omega arith, λ e. omega arith)

walk : (limit : Limit) (s : List ℕ) (list : List NodeRecord) (at : ℕ) (above : List Split) → Numbered (walk_from limit lowest_lot s list at above)
unfolding walk_from
walk limit s [] at above = (omega arith, λ e. omega arith)
walk limit s (r ∷ rest) at above = one_record limit s (walk_from limit lowest_lot s rest) rest (walk limit s rest) at above r

module _ (limit : Limit) (s list : List ℕ) where
  length_test : Numbered (check10 list)
  unfolding check10
  length_test = test (eqb (length list) 0 || not (eqb (length list % record_length) 0) || ltb most_nodes (length list / record_length)) 10 0 (omega arith, λ e. omega arith)

  whole_walk : Numbered (walk_verdict limit lowest_lot s list)
  unfolding walk_verdict
  whole_walk = walk limit s (records_of list) 1 []

  pub list_numbered : Numbered (list_verdict_under limit lowest_lot s list)
  unfolding list_verdict_under first_refusal check20
  list_numbered =
      subst Numbered (sym (further s (limit_checks limit ++ check10 list ∷ walk_verdict limit lowest_lot s list ∷ [])))
      (either (sheet_verdict s) _ (sheet_numbered s) (rest limit (either (check10 list) _ length_test (either (walk_verdict limit lowest_lot s list) Passes whole_walk tt))))
    where
      rest : (l : Limit) → Numbered (first_refusal (check10 list ∷ walk_verdict limit lowest_lot s list ∷ []))
          → Numbered (first_refusal (limit_checks l ++ check10 list ∷ walk_verdict limit lowest_lot s list ∷ []))
      rest unlimited later = later
      rest (up_to g) later =
          either (refuses_if (eqb g 0 || ltb most_limit g) 20 g) (first_refusal (check10 list ∷ walk_verdict limit lowest_lot s list ∷ []))
          (test (eqb g 0 || ltb most_limit g) 20 g (omega arith, λ e. omega arith)) later
