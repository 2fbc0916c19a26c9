-- What follows a ground, and what a split, a ground and a clique come to, case by case.
use Prim.Native.Nat.{ℕ, suc, ◌+◌, ◌-◌, ◌≤◌, ◌<◌}
use mathlib.Core.Bool.{true, false, and-false, false≢true}
use mathlib.Core.List.{List, [], ◌∷◌}
use mathlib.Core.Path.{◌≡◌, refl, sym, ap, ◌∙◌}
use native.Mathlib.Numerals.{add-one}
use native.Mathlib.Omega.{arith}
use borrow.Author.Tests.{eq-eqb, ne_eqb, le-leb, lt-leb}
use lib.Dec.{leb}
use lib.ListN.{length}
use Rattle.sheet.specs.Format.{lowest_lot, lot_count, condition_count}
use Rattle.sheet.specs.Checks.{lot_in_range}
use Rattle.sheet.specs.Conditions.{same}
use Rattle.sheet.specs.Verdicts.{Verdict, Passes, Refuses}
use Rattle.limit.specs.Meaning.{Limit, unlimited, up_to}
use Rattle.limit.specs.Rule.{clique_passes}
use Rattle.store.specs.Records.{NodeRecord, split_record, ground_record}
use Rattle.refutation.specs.Refutation.{most_splits, Split, decisions_of, ground_fails, same_split, nearest, turned, must_end, after_ground}
use Rattle.refutation.specs.Refutation.{named, condition_in_range, walk_clique, walk_record}
use Rattle.path.specs.Paths.{split_in, first_lot_in, second_lot_in, path_of, nearest_as}
use Rattle.path.proofs.Splits.{nearest_some}
use Rattle.steps.specs.Steps.{none_left}

-- No walk goes deeper than one with a limit.
pub no_deeper : (limit : Limit) (g : ℕ) → most_splits limit ≤ most_splits (up_to g)
no_deeper unlimited g = omega arith
no_deeper (up_to k) g = omega arith

-- ---- after a ground

module _ (walk_rest : ℕ → List Split → Verdict) (rest : List NodeRecord) (following : ℕ) (path : List ℕ) (depth top : ℕ)
    (found : nearest_as path top ≡ nearest (path_of path depth)) where
  -- With no split still in its same branch the list must end:
  ends : top ≡ 0 → after_ground walk_rest rest following (nearest (path_of path depth)) ≡ must_end rest following
  ends e = ap (after_ground walk_rest rest following) (sym found ∙ ap (nearest_as path) e)

  -- no record is left,
  pub ends_there : top ≡ 0 → none_left rest ≡ true → after_ground walk_rest rest following (nearest (path_of path depth)) ≡ Passes
  ends_there e none = ends e ∙ go rest none
    where
      go : (rs : List NodeRecord) → none_left rs ≡ true → must_end rs following ≡ Passes
      go [] q = refl
      go (r ∷ rs) q = absurd (false≢true q)

  -- or one is.
  pub left_over : top ≡ 0 → none_left rest ≡ false → after_ground walk_rest rest following (nearest (path_of path depth)) ≡ Refuses 14 following
  left_over e some = ends e ∙ go rest some
    where
      go : (rs : List NodeRecord) → none_left rs ≡ false → must_end rs following ≡ Refuses 14 following
      go [] q = absurd (false≢true (sym q))
      go (r ∷ rs) q = refl

  module _ (some : 0 < top) where
    nearest_is : nearest (path_of path depth) ≡ same_split (split_in path (top - 1)) (first_lot_in path (top - 1)) (second_lot_in path (top - 1)) (path_of path (top - 1))
    nearest_is = sym found ∙ nearest_some path top some

    -- The split's next is another record's,
    pub wrong_next : ((split_in path (top - 1)).next ≡ following → ⊥)
        → after_ground walk_rest rest following (nearest (path_of path depth)) ≡ Refuses 13 (split_in path (top - 1)).number
    wrong_next ne = ap (after_ground walk_rest rest following) nearest_is ∙ simp (ne_eqb (split_in path (top - 1)).next following ne)

    -- or it is turned, and the walk goes on.
    pub turns : (split_in path (top - 1)).next ≡ following → (path' : List ℕ)
        → path_of path' top ≡ turned (split_in path (top - 1)) (first_lot_in path (top - 1)) (second_lot_in path (top - 1)) ∷ path_of path (top - 1)
        → after_ground walk_rest rest following (nearest (path_of path depth)) ≡ walk_rest following (path_of path' top)
    turns e path' turn =
        let go_on : after_ground walk_rest rest following (same_split (split_in path (top - 1)) (first_lot_in path (top - 1)) (second_lot_in path (top - 1)) (path_of path (top - 1)))
        ≡ walk_rest following (turned (split_in path (top - 1)) (first_lot_in path (top - 1)) (second_lot_in path (top - 1)) ∷ path_of path (top - 1)) =
        simp (eq-eqb (split_in path (top - 1)).next following e) in
        ap (after_ground walk_rest rest following) nearest_is ∙ go_on ∙ ap (walk_rest following) (sym turn)

-- ---- a split

module _ (limit : Limit) (s : List ℕ) (walk_rest : ℕ → List Split → Verdict) (rest : List NodeRecord) (r : ℕ) (above : List Split) (a b next : ℕ) where
  abbrev pub AtSplit : Verdict → Type 0
  AtSplit v = walk_record limit lowest_lot s walk_rest rest r above (split_record a b next) ≡ v

  -- A lot is out of range,
  pub first_out : lot_in_range lowest_lot (lot_count s) a ≡ false → AtSplit (Refuses 11 r)
  first_out e = simp e

  pub second_out : lot_in_range lowest_lot (lot_count s) a ≡ true → lot_in_range lowest_lot (lot_count s) b ≡ false → AtSplit (Refuses 11 r)
  second_out e f = simp (e, f)

  module _ (first : lot_in_range lowest_lot (lot_count s) a ≡ true) (second : lot_in_range lowest_lot (lot_count s) b ≡ true) where
    -- too many splits stand above it,
    pub too_deep : most_splits limit ≤ length above → AtSplit (Refuses 15 r)
    too_deep h = simp (first, second, le-leb (most_splits limit) (length above) h)

    -- or the walk goes on below it.
    pub pushed : length above < most_splits limit → (below : List Split) → below ≡ record { number = r; next = next; decision = same a b } ∷ above
        → AtSplit (walk_rest (r + 1) below)
    pushed h below e =
        let go_on : AtSplit (walk_rest (suc r) (record { number = r; next = next; decision = same a b } ∷ above)) =
        simp (first, second, lt-leb (most_splits limit) (length above) h) in
        go_on ∙ (λ i. walk_rest (sym (add-one r) i) (sym e i))

-- ---- a ground

module _ (limit : Limit) (s : List ℕ) (walk_rest : ℕ → List Split → Verdict) (rest : List NodeRecord) (r : ℕ) (above : List Split) (c : ℕ) where
  abbrev pub AtGround : Verdict → Type 0
  AtGround v = walk_record limit lowest_lot s walk_rest rest r above (ground_record c) ≡ v

  -- Its condition is none of the sheet's,
  pub condition_out : condition_in_range s c ≡ false → AtGround (Refuses 11 r)
  condition_out e = simp e

  module _ (within : condition_in_range s c ≡ true) where
    -- a term isn't false,
    pub not-ground : ground_fails (decisions_of above) (named s c) ≡ true → AtGround (Refuses 12 r)
    not-ground e = simp (within, e)

    -- or what follows decides.
    pub grounded : ground_fails (decisions_of above) (named s c) ≡ false → AtGround (after_ground walk_rest rest (r + 1) (nearest above))
    grounded e =
        let follows : AtGround (after_ground walk_rest rest (suc r) (nearest above)) = simp (within, e) in
        follows ∙ ap (λ (k : ℕ). after_ground walk_rest rest k (nearest above)) (sym (add-one r))

-- The range of a ground's condition, by its two tests.
module _ (s : List ℕ) (c : ℕ) where
  pub condition-none : c ≡ 0 → condition_in_range s c ≡ false
  condition-none e = rw e refl

  pub condition-above : condition_count s < c → condition_in_range s c ≡ false
  condition-above h = simp (lt-leb c (condition_count s) h) (and-false (leb 1 c))

  pub condition-within : 1 ≤ c → c ≤ condition_count s → condition_in_range s c ≡ true
  condition-within low high = simp (le-leb 1 c low, le-leb c (condition_count s) high)

-- ---- a clique

module _ (n : ℕ) (walk_rest : ℕ → List Split → Verdict) (rest : List NodeRecord) (r : ℕ) (above : List Split) where
  -- Without a limit there is none.
  pub unlimited-clique : walk_clique unlimited n walk_rest rest r above ≡ Refuses 11 r
  unlimited-clique = refl

  module _ (limit : ℕ) where
    abbrev pub AtClique : Verdict → Type 0
    AtClique v = walk_clique (up_to limit) n walk_rest rest r above ≡ v

    -- With one, fewer classes are left or two of the first aren't marked apart,
    pub not-clique : clique_passes limit n (decisions_of above) ≡ false → AtClique (Refuses 12 r)
    not-clique e = simp e

    -- or what follows decides.
    pub cliqued : clique_passes limit n (decisions_of above) ≡ true → AtClique (after_ground walk_rest rest (r + 1) (nearest above))
    cliqued e = simp (e, add-one r)
