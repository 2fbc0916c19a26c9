-- `leaves::clique_passes`: the first classes under the path, and their pairs by a table with the path's marks.
use Prim.Native.Nat.{ℕ, suc, ◌≤◌, ◌<◌}
use mathlib.Core.Bool.{Bool, false, true, not}
use mathlib.Core.List.{List}
use mathlib.Core.Path.{◌≡◌, refl, sym, ap, subst, ◌∙◌}
use native.Mathlib.Omega.{arith}
use lib.ListN.{length, take}
use Rattle.std.specs.Option.{is_some}
use Rattle.std.specs.Prelude.{Option, Some, None}
use Rattle.sheet.specs.declared.Lot.{Lot}
use Rattle.sheet.specs.Format.{most_lots}
use Rattle.equality.specs.Node.{Node, Decisions, classes}
use Rattle.limit.specs.Rule.{smallest_from, classes_left, first_classes, clique_passes}
use Rattle.limit.specs.Scan.{classes_up_to, is_clique, pairs_at}
use Rattle.levels.specs.Levels.{row, level_under, Walkable}
use Rattle.levels.proofs.Leveling.{top_classes, top_level}
use Rattle.classes.specs.Maps.{ClassMap}
use Rattle.classes.proofs.Maps.{class_map}
use Rattle.marks.specs.Marks.{Marks, mark_at}
use Rattle.clique.specs.Found.{found_as}
use Rattle.leaves.proofs.Splits.{decided}
use Rattle.leaves.proofs.Cliques.{few-classes, pairs_decide}
use Rattle.leaves.proofs.clique_passes.Goals as goal

-- The map at the path's level has its classes.
module _ {path maps levels : List ℕ} {depth : ℕ} (w : Walkable path maps levels depth) {lots : List ℕ} (e : lots ≡ row maps (level_under levels depth)) where
  -- The decisions of the path.
  abbrev ds : Decisions
  ds = decided path depth

  map_is : lots ≡ classes ds
  map_is = e ∙ top_classes w

  is_map : ClassMap lots
  is_map = subst ClassMap (sym map_is) (class_map _)

  -- The classes found are the first under the path.
  module _ (n limit end count : ℕ) (found : take (suc limit) (classes_up_to lots n) ≡ smallest_from lots end 0) (many : count ≡ length (smallest_from lots end 0)) where
    first : first_classes limit n ds ≡ smallest_from (classes ds) end 0
    unfolding classes_left
    first = subst (λ (l : List ℕ). take (suc limit) (classes_up_to l n) ≡ smallest_from l end 0) map_is found

    counted : count ≡ length (smallest_from (classes ds) end 0)
    counted = many ∙ ap (λ (l : List ℕ). length (smallest_from l end 0)) map_is

    few : count ≤ limit → clique_passes limit n ds ≡ false
    few le = few-classes ds limit n end first (omega (arith, counted))

    -- Their pairs decide where there are more of them than the limit.
    decides : limit < count → end ≤ suc most_lots → (table : List ℕ) → Marks table 0 lots ds
        → (node : Node) → node ≡ pairs_at (mark_at table 0) lots end 0 1 → is_clique node ≡ clique_passes limit n ds
    decides more within table stamped node told =
        let marks = subst (λ (l : List ℕ). Marks table 0 l ds) map_is stamped in
        ap is_clique told
        ∙ ap (λ (l : List ℕ). is_clique (pairs_at (mark_at table 0) l end 0 1)) map_is
        ∙ pairs_decide ds limit n end first (omega (arith, counted)) within marks

-- They are a clique where no pair is found.
no_pair : (found : Option (Lot × Lot)) (none : Bool) → is_some found ≡ not none → none ≡ is_clique (found_as found)
no_pair None true e = refl
no_pair None false e = e
no_pair (Some pair) true e = e
no_pair (Some pair) false e = refl

-- ---- what is asked
pub top-lots-requires : goal.top-lots-requires
top-lots-requires c =
    let w = c.requires.1 in (w.rows, w.places, top_level w)

pub first_classes-first-requires : goal.first_classes-first-requires
first_classes-first-requires c =
    (is_map c.requires.1 c.top-lots.ensures, c.requires.0)

pub returns-then-first-limit : goal.returns-then-first-limit
returns-then-first-limit c =
    let firsts = c.first_classes-first in
    record {
      passes = sym
          (few c.requires.1 c.top-lots.ensures
          c.args.n c.args.limit firsts.result.end firsts.result.count firsts.ensures.first firsts.ensures.count c.if-first-limit.true);
    }

pub stamp-requires : goal.stamp-requires
stamp-requires c = (
  c.requires.2,
  c.requires.1.within,
  is_map c.requires.1 c.top-lots.ensures,
)

pub first_open-requires : goal.first_open-requires
first_open-requires c = (
  is_map c.requires.1 c.top-lots.ensures,
  omega (arith, c.stamp.auto.table, c.requires.2),
  omega arith,
  omega (arith, c.first_classes-first.ensures.end, c.requires.0),
)

pub returns : goal.returns
returns c =
    let firsts = c.first_classes-first in
    record {
      passes = no_pair c.first_open.result c.is_none.result c.is_none.ensures
          ∙ decides c.requires.1 c.top-lots.ensures
          c.args.n c.args.limit firsts.result.end firsts.result.count firsts.ensures.first firsts.ensures.count
          c.if-first-limit.false (omega (arith, firsts.ensures.end, c.requires.0)) c.stamp.new.table c.stamp.ensures _ c.first_open.ensures;
    }
