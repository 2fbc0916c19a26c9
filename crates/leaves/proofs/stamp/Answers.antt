use borrow.Author.Tests.{not-true, not-false}
use Prim.Native.Nat.{◌+◌}
use mathlib.Core.Path.{sym, subst}
use native.Mathlib.Numerals.{add-one}
use Rattle.marks.specs.Marks.{Marks}
use Rattle.marks.proofs.Marks.{marks_none, marks_same, marks_apart}
use Rattle.leaves.proofs.Splits.{decided_none, with_same, with_apart}
use Rattle.leaves.proofs.stamp.Goals as goal
use Rattle.leaves.proofs.stamp.Goals.{then-not-pair, else-not-pair}

pub loop-i-init : goal.loop-i-init
loop-i-init c = subst (Marks _ 0 _) (sym (decided_none _)) (marks_none c.clear.ensures.unmarked)

pub loop-i-preserved : goal.loop-i-preserved
loop-i-preserved c =
    let pair = c.pair_at-pair in
    let path = c.args.path.now in
    let i = c.loop-i.i in
    elim c.if-not-pair.branch [
      | then-not-pair w ↦
          rw (w.table-is, with_apart path (i + 1) i (add-one i) pair.result pair.ensures.decision (not-true _ w.if-not-pair.true))
          (marks_apart pair.result.a.0 pair.result.b.0 c.loop-i.invariant w.mark.ensures)
      | else-not-pair w ↦
          rw (w.table-is, with_same path (i + 1) i (add-one i) pair.result pair.ensures.decision (not-false _ w.if-not-pair.false))
          (marks_same pair.result.a.0 pair.result.b.0 c.loop-i.invariant)
    ]
