use native.Mathlib.Omega.{arith}
use Rattle.classes.specs.Pairs.{set_apart}
use Rattle.marks.proofs.Bytes.{outside-none, outside_then}
use Rattle.marks.proofs.Marks.{marks_none, marks_pair}
use Rattle.marks.proofs.mark_pairs.Goals as goal

pub loop-i-init : goal.loop-i-init
unfolding set_apart
loop-i-init c =
    grind (arith, marks_none, outside-none)

pub loop-i-preserved : goal.loop-i-preserved
loop-i-preserved c =
    let turn = c.loop-i in
    (marks_pair turn.i turn.invariant.1 (omega arith) turn.invariant.0 (rw (← c.from-a.ensures, ← c.from-b.ensures) c.mark.ensures), outside_then turn.invariant.1 c.mark.ensures.outside)
