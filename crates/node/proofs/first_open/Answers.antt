use mathlib.Core.Path.{sym, ◌∙◌}
use native.Mathlib.Omega.{arith}
use borrow.Author.Tests.{not-true, not-false}
use Rattle.classes.proofs.Path.{marked-says}
use Rattle.marks.proofs.Bytes.{outside-none}
use Rattle.equality.proofs.Walking.{record_here, lots_here, rest_here, passed_here}
use Rattle.node.proofs.Splitting.{closed_same, closed_apart, splits_here, leaves_here, none_left, goes_on}
use Rattle.node.proofs.first_open.Goals as goal
use Rattle.node.proofs.first_open.Goals.{then-t-eq-SAME+else-not-mark, else-t-eq-SAME}

pub term_at-t-requires : goal.term_at-t-requires
term_at-t-requires c = record_here c.requires.0 (omega arith) c.loop-at.invariant

pub marked_apart-mark-requires : goal.marked_apart-mark-requires
marked_apart-mark-requires c =
    let lots = lots_here c.requires.0 (omega arith) c.loop-at.invariant c.term_at-t.ensures in
    (c.requires.1.within, lots.0, lots.1)

-- the rest of the chain is shorter,
pub loop-at-smaller : goal.loop-at-smaller
loop-at-smaller c = rest_here c.requires.0 (omega arith) c.loop-at.invariant c.term_at-t.ensures

-- and a closed term is passed.
pub loop-at-preserved : goal.loop-at-preserved
loop-at-preserved c =
    passed_here c.requires.0 (omega arith) c.loop-at.invariant c.term_at-t.ensures
    (elim c.if-t-eq-SAME.branch [
      | then-t-eq-SAME+else-not-mark w ↦ closed_same _ _ _ _ w.if-t-eq-SAME.true (sym w.marked_apart-mark.ensures.marked ∙ not-false _ w.if-not-mark.false)
      | else-t-eq-SAME w ↦ closed_apart _ _ _ _ w.if-t-eq-SAME.false
    ])

pub returns-then-not-mark : goal.returns-then-not-mark
returns-then-not-mark c =
    let l = c.loop-at.invariant in
    rw c.split_on.ensures
    (record {
      node = λ ds rep w.
          splits_here c.requires.0 l (λ u v n. marked-says rep u v) w (omega arith) c.term_at-t.ensures c.if-t-eq-SAME.true
          (sym c.marked_apart-mark.ensures.marked ∙ not-true _ c.if-not-mark.true);
      leaves = λ ds rep w. leaves_here c.requires.0 l (λ u v n. marked-says rep u v) w (omega arith) c.term_at-t.ensures c.if-t-eq-SAME.true;
      outside = outside-none _ _;
    })

-- ---- no term is left
pub returns-then-at-eq0 : goal.returns-then-at-eq0
returns-then-at-eq0 c =
    record {
      node = λ ds rep w. none_left c.requires.0 c.loop-at.invariant (λ u v n. marked-says rep u v) w c.if-at-eq0.true;
      leaves = λ ds rep w. tt;
      outside = outside-none _ _;
    }

-- ---- a table decides from here on
pub returns : goal.returns
returns c =
    let l = c.loop-at.invariant in
    record {
      node = λ ds rep w. c.by_table.ensures.node ds rep (goes_on c.requires.0 l (λ u v n. marked-says rep u v) w);
      leaves = λ ds rep w. c.by_table.ensures.leaves ds rep (goes_on c.requires.0 l (λ u v n. marked-says rep u v) w);
      outside = c.by_table.ensures.outside;
    }
