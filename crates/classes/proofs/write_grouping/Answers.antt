-- `classes::write_grouping`: each byte below i is the smallest lot of its lot's class.
use mathlib.Core.Path.{◌≡◌, sym, ◌∙◌}
use native.Mathlib.Omega.{arith}
use borrow.Author.Rules.{rules}
use lib.ListN.{length, take, drop, length-take, length-drop}
use lib.Seq.{ext_get_or, get_or-take, get_or-drop}
use Rattle.classes.specs.Maps.{entries}
use Rattle.classes.proofs.write_grouping.Goals as goal

pub returns : goal.returns
returns c =
    let lots = c.args.map.lots in
    let n = length c.args.grouping.now in
    let len : length lots ≡ entries = search rules in
    let size : length (take n (drop 1 lots)) ≡ n = simp (length-take, length-drop) (omega arith) in
    ext_get_or 0 c.loop-i.grouping (take n (drop 1 lots)) (omega (arith, size))
    (λ k lt. c.loop-i.invariant k (omega arith) ∙ sym (get_or-take n (drop 1 lots) k 0 (omega arith) ∙ get_or-drop 1 lots k 0))
