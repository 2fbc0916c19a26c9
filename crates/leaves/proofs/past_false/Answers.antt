use borrow.Author.Tests.{eq-eqb, ne_eqb}
use mathlib.Core.Path.{◌∙◌}
use native.Mathlib.Omega.{arith}
use Rattle.sheet.specs.Format.{same_sign}
use Rattle.equality.specs.Node.{marked}
use Rattle.equality.proofs.Walking.{record_here, lots_here, rest_here, passed_here}
use Rattle.equality.proofs.Passing.{left_decides}
use Rattle.leaves.proofs.Splits.{decided, found_marks, found_within}
use Rattle.leaves.proofs.Grounds.{allows_term}
use Rattle.leaves.proofs.past_false.Goals as goal
use Rattle.leaves.proofs.past_false.Goals.{then-t-eq-SAME+else-x-y+else-walked-gt-WALKED+in-Some, else-t-eq-SAME+else-x-y-2}

pub term_at-t-requires : goal.term_at-t-requires
term_at-t-requires c = record_here c.requires.0 (omega arith) c.loop-at.invariant

pub bounds-lots-t : goal.bounds-lots-t
bounds-lots-t c = omega (arith, lots_here c.requires.0 (omega arith) c.loop-at.invariant c.term_at-t.ensures, c.requires.2.size)

pub bounds-lots-t-in-loop-at : goal.bounds-lots-t-in-loop-at
bounds-lots-t-in-loop-at c = omega (arith, lots_here c.requires.0 (omega arith) c.loop-at.invariant c.term_at-t.ensures, c.requires.2.size)

-- Where the loop is left, what is left of the chain decides.
pub returns-then-x-y-clause-rest : goal.returns-then-x-y-clause-rest
returns-then-x-y-clause-rest c = left_decides _ c.args.sheet.now c.requires.0.accepted c.args.head.0 c.loop-at.at.0 c.loop-at.invariant

pub returns-in-None-clause-rest : goal.returns-in-None-clause-rest
returns-in-None-clause-rest c = left_decides _ c.args.sheet.now c.requires.0.accepted c.args.head.0 c.loop-at.at.0 c.loop-at.invariant

pub overflow_sub-walked : goal.overflow_sub-walked
overflow_sub-walked c = omega (arith, found_within _ _ _ _ _ _ c.in-Some.ensures)

pub overflow_sub-walked-in-Some : goal.overflow_sub-walked-in-Some
overflow_sub-walked-in-Some c = omega (arith, found_within _ _ _ _ _ _ c.in-Some.ensures)

pub returns-then-x-y-2-clause-rest : goal.returns-then-x-y-2-clause-rest
returns-then-x-y-2-clause-rest c = left_decides _ c.args.sheet.now c.requires.0.accepted c.args.head.0 c.loop-at.at.0 c.loop-at.invariant

pub loop-at-smaller : goal.loop-at-smaller
loop-at-smaller c = rest_here c.requires.0 (omega arith) c.loop-at.invariant c.term_at-t.ensures

-- A term that the turn goes past is false: it is a "same" term and a split is found between its classes, or an "apart" term whose lots share one.
pub loop-at-preserved : goal.loop-at-preserved
loop-at-preserved c =
    let t = c.term_at-t.result in
    passed_here c.requires.0 (omega arith) c.loop-at.invariant c.term_at-t.ensures
    (allows_term c.args.lots.now (marked c.args.lots.now (decided c.args.path.now c.args.depth)) t.sign t.a.0 t.b.0
    ∙ elim c.if-t-eq-SAME.branch [
      | then-t-eq-SAME+else-x-y+else-walked-gt-WALKED+in-Some w ↦
          simp (eq-eqb t.sign same_sign w.if-t-eq-SAME.true, ne_eqb _ _ w.if-x-y.false, found_marks _ _ _ _ _ _ w.in-Some.ensures)
      | else-t-eq-SAME+else-x-y-2 w ↦ simp (ne_eqb t.sign same_sign w.if-t-eq-SAME.false, eq-eqb _ _ w.if-x-y-2.false)
    ])

pub returns-clause-rest : goal.returns-clause-rest
returns-clause-rest c = left_decides _ c.args.sheet.now c.requires.0.accepted c.args.head.0 c.loop-at.at.0 c.loop-at.invariant
