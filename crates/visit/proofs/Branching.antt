-- The branches of a split, from the path that the map and the pairs represent: each may be visited, and less is open in it.
use Prim.Native.Nat.{ℕ, ◌+◌, ◌*◌, ◌≤◌, ◌<◌}
use mathlib.Core.List.{List, ◌∷◌}
use mathlib.Core.Path.{◌≡◌}
use lib.ListN.{length}
use Rattle.std.specs.Prelude.{Option}
use Rattle.sheet.specs.Format.{most_lots, lot_count}
use Rattle.sheet.specs.Checks.{Accepted}
use Rattle.sheet.specs.Conditions.{same}
use Rattle.equality.specs.Node.{Decisions, merged, class_of, split}
use Rattle.equality.specs.Search.{Tree}
use Rattle.equality.specs.Visits.{Visits}
use Rattle.limit.specs.Scan.{limit_in}
use Rattle.classes.specs.declared.Classes.{Classes}
use Rattle.classes.specs.Pairs.{with_pair, Untouched}
use Rattle.scan.specs.declared.Place.TheVariants.{Scan}
use Rattle.scan.specs.Place.{HasLevel, with_level}
use Rattle.scan.specs.Settled.{Later, ClearedAbove}
use Rattle.scan.proofs.Settling.{restored_settled, restored_later}
use Rattle.node.specs.declared.Split.{Split}
use Rattle.visit.specs.declared.Visited.{Visited}
use Rattle.visit.specs.Visited.{rule_of, Standing, Visitable, Splittable, Explored, VisitExplores}
use Rattle.visit.proofs.Standing.{open_by_map, has-level, under_settled, under_later, same-level, apart-level, level-room, split-small, same-standing, same_less, pair_room, apart-standing, apart_less}

module _ {limit : Option ℕ} {s : List ℕ} {map : Classes} {on : Split} {count level : ℕ} {pairs levels : List ℕ} (ok : Accepted s)
    (able : Splittable limit s map on count level pairs levels) where
  pub small : (on.a.0 ≤ most_lots) × (on.b.0 ≤ most_lots)
  small = split-small able.standing ok _ _ able.splits

  pub level_fits : level + 1 < 65536
  level_fits = level-room able.standing ok _ _ able.splits level able.levels

  pub pair_fits : 2 * count + 2 ≤ length pairs
  pair_fits = pair_room able.standing ok _ _ able.splits

  pub may_note : HasLevel on.apart levels
  may_note = has-level (limit_in limit) (lot_count s) s levels _ able.settled.sized on.apart able.leaves

  -- The same branch, of the next level, in which the split's condition is noted;
  module _ {joined : Classes} (joins : joined.lots ≡ merged (class_of map.lots on.a.0) (class_of map.lots on.b.0) map.lots) where
    pub same_able : {levels₁ : List ℕ} → levels₁ ≡ with_level on.apart (level + 1) levels → Visitable limit s joined Scan count (level + 1) pairs levels₁
    same_able noted =
        rw noted
        (record {
          settled =
              under_settled (limit_in limit) (lot_count s) s on able.path levels level map.lots able.standing.represents.lots able.settled able.splits able.leaves
              joined.lots joins;
          path = _;
          standing = same-standing able.standing ok _ _ able.splits joined joins;
          resumes = tt;
          levels = same-level able.standing ok _ _ able.splits level able.levels;
        })

    pub same_open : open_by_map limit s joined.lots pairs count < open_by_map limit s map.lots pairs count
    same_open = same_less able.standing ok _ _ able.splits joined joins

  -- the levels that it writes are later ones;
  pub over : {levels₁ levels₂ : List ℕ} → levels₁ ≡ with_level on.apart (level + 1) levels → Later levels₁ levels₂ (level + 1) → Later levels levels₂ (level + 1)
  over {levels₁} {levels₂} noted later =
      under_later (limit_in limit) (lot_count s) s on able.path levels level map.lots able.standing.represents.lots able.settled able.splits able.leaves
      levels₁ levels₂ noted later

  -- and the apart branch, with the levels as they were before.
  module _ {levels₂ levels₃ : List ℕ} (later : Later levels levels₂ (level + 1)) (cleared : ClearedAbove levels₂ levels₃ level) where
    pub apart_able : (pairs₂ pairs₃ : List ℕ) → length pairs₂ ≡ length pairs → Untouched pairs pairs₂ count → pairs₃ ≡ with_pair pairs₂ count on.a.0 on.b.0
        → Visitable limit s map on.apart (count + 1) level pairs₃ levels₃
    apart_able pairs₂ pairs₃ len untouched set =
        record {
          settled = restored_settled map.lots s levels levels₂ levels₃ level able.settled later cleared;
          path = _;
          standing = apart-standing able.standing ok _ _ able.splits pairs₂ pairs₃ len untouched set;
          resumes = able.leaves;
          levels = apart-level able.standing ok _ _ able.splits level able.levels;
        }

    pub apart_later : Later levels levels₃ level
    apart_later = restored_later map.lots s levels levels₂ levels₃ level able.settled later cleared

  pub apart_open : (pairs₂ pairs₃ : List ℕ) → length pairs₂ ≡ length pairs → Untouched pairs pairs₂ count → pairs₃ ≡ with_pair pairs₂ count on.a.0 on.b.0
      → open_by_map limit s map.lots pairs₃ (count + 1) < open_by_map limit s map.lots pairs count
  apart_open pairs₂ pairs₃ len untouched set = apart_less able.standing ok _ _ able.splits pairs₂ pairs₃ len untouched set

-- What the visit of the same branch says of every such path.
pub told_same : {limit : Option ℕ} {s : List ℕ} {map joined : Classes} {count : ℕ} {pairs : List ℕ} {a b from : ℕ} {store store' grouping grouping' : List ℕ} {r : Visited}
    → Accepted s → joined.lots ≡ merged (class_of map.lots a) (class_of map.lots b) map.lots
    → VisitExplores limit s joined Scan count pairs from store store' grouping grouping' r
    → (ds : Decisions) → Standing limit s map pairs count ds → rule_of limit s ds ≡ split a b
    → (tree : Tree) → Visits (rule_of limit s) (same a b ∷ ds) tree → Explored from store store' grouping grouping' r tree
told_same ok joins told ds st e tree v = told _ tree (same-standing st ok _ _ e _ joins) tt v
