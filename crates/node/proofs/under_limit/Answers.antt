-- `node::under_limit`: by how many classes are found; where they are more than the limit, by the table that is marked from the pairs in front of it.
use Prim.Native.Nat.{ℕ, suc, ◌≤◌, ◌<◌}
use mathlib.Core.List.{List}
use mathlib.Core.Path.{◌≡◌, ◌∙◌}
use native.Mathlib.Omega.{arith}
use lib.ListN.{length, take}
use Rattle.sheet.specs.Format.{most_lots}
use Rattle.equality.specs.Node.{Decisions}
use Rattle.limit.specs.Meaning.{up_to}
use Rattle.limit.specs.Rule.{smallest_from, none_taken}
use Rattle.limit.specs.Scan.{classes_up_to, pairs_at, ScanFrom}
use Rattle.classes.specs.declared.Classes.{Classes}
use Rattle.classes.specs.Pairs.{set_apart, Represents}
use Rattle.marks.specs.Marks.{Marks, mark_at}
use Rattle.marks.proofs.Marks.{marks_at, marks_represent}
use Rattle.node.proofs.Pairing.{few-met, scan_node}
use Rattle.node.proofs.under_limit.Goals as goal

pub returns-then-first-limit-clause-node : goal.returns-then-first-limit-clause-node
returns-then-first-limit-clause-node c ds rep from =
    let firsts = c.first_classes-first in
    few-met c.args.map.lots ds rep.lots c.args.limit c.args.lots firsts.result.end firsts.ensures.first (omega (arith, firsts.ensures.count, c.if-first-limit.true))

-- More classes than the limit: what the pairs come to by a table that is marked.
module _ (map : Classes) (pairs table : List ℕ) (at count limit lots x y end : ℕ) (rises : x < y)
    (first : take (suc limit) (classes_up_to map.lots lots) ≡ smallest_from map.lots end 0) (more : limit < length (smallest_from map.lots end 0)) (high : end ≤ suc most_lots)
    (marks : Marks table at map.lots (set_apart pairs count)) (ds : Decisions) (rep : Represents map pairs count ds) (from : ScanFrom limit lots x y ds) where
  found : pairs_at (mark_at table at) map.lots end x y ≡ none_taken (up_to limit) lots ds
  found = scan_node map.lots ds rep.lots limit lots end first more high _ (λ u v h k. marks_at (marks_represent rep marks) u v (omega arith) k (λ e. omega arith)) x y rises from

pub returns-in-Some-clause-node : goal.returns-in-Some-clause-node
returns-in-Some-clause-node c ds rep from =
    let firsts = c.first_classes-first in
    let marks = c.stamp_pairs.ensures.marks in
    c.in-Some.ensures
    ∙ found c.args.map c.args.pairs.now _ _ c.args.count c.args.limit c.args.lots c.args.x c.args.y firsts.result.end c.requires.2
    firsts.ensures.first (omega (arith, firsts.ensures.count, c.if-first-limit.false)) (omega (arith, firsts.ensures.end, c.requires.1)) marks ds rep from

pub returns-in-None-clause-node : goal.returns-in-None-clause-node
returns-in-None-clause-node c ds rep from =
    let firsts = c.first_classes-first in
    let marks = c.stamp_pairs.ensures.marks in
    c.in-None.ensures
    ∙ found c.args.map c.args.pairs.now _ _ c.args.count c.args.limit c.args.lots c.args.x c.args.y firsts.result.end c.requires.2
    firsts.ensures.first (omega (arith, firsts.ensures.count, c.if-first-limit.false)) (omega (arith, firsts.ensures.end, c.requires.1)) marks ds rep from
