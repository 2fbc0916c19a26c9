use mathlib.Core.Path.{sym, ◌∙◌}
use native.Mathlib.Omega.{arith}
use Rattle.equality.proofs.Passing.{passing_through}
use Rattle.equality.proofs.Walking.{record_here, following_fits, lots_here, rest_here, passed_here}
use Rattle.node.proofs.Opening.{table-says}
use Rattle.node.proofs.Splitting.{closed_same, closed_apart, splits_here, leaves_here, none_left}
use Rattle.node.proofs.first_unmarked.Goals as goal
use Rattle.node.proofs.first_unmarked.Goals.{then-t-eq-SAME+else-not-is_marked, else-t-eq-SAME}

-- ---- a record
pub overflow_add-following : goal.overflow_add-following
overflow_add-following c =
    let run = c.loop-a.invariant in
    omega (arith, following_fits c.requires.0 run.0 run.1)

pub term_at-t-requires : goal.term_at-t-requires
term_at-t-requires c =
    let run = c.loop-a.invariant in
    record_here c.requires.0 run.0 run.1

pub bounds-lots-a : goal.bounds-lots-a
bounds-lots-a c =
    let run = c.loop-a.invariant in
    omega (arith, lots_here c.requires.0 run.0 run.1 c.term_at-t.ensures, c.requires.1.size)

pub bounds-lots-b : goal.bounds-lots-b
bounds-lots-b c =
    let run = c.loop-a.invariant in
    omega (arith, lots_here c.requires.0 run.0 run.1 c.term_at-t.ensures, c.requires.1.size)

-- The run is over;
pub chain-smaller : goal.chain-smaller
chain-smaller c =
    let run = c.loop-a.invariant in
    omega (arith, rest_here c.requires.0 run.0 run.1 c.term_at-t.ensures, run.2)

pub chain-preserved : goal.chain-preserved
chain-preserved c =
    let run = c.loop-a.invariant in
    passing_through c.chain.invariant
    (passed_here c.requires.0 run.0 run.1 c.term_at-t.ensures
    (elim c.if-t-eq-SAME.branch [
      | then-t-eq-SAME+else-not-is_marked w ↦ closed_same _ _ _ _ w.if-t-eq-SAME.true (sym w.is_marked.ensures ∙ w.if-not-is_marked.false)
      | else-t-eq-SAME w ↦ closed_apart _ _ _ _ w.if-t-eq-SAME.false
    ]))

-- or it goes on.
pub loop-a-smaller : goal.loop-a-smaller
loop-a-smaller c =
    let run = c.loop-a.invariant in
    rw c.if-t-following.false at (rest_here c.requires.0 run.0 run.1 c.term_at-t.ensures)

pub loop-a-preserved : goal.loop-a-preserved
loop-a-preserved c =
    let run = c.loop-a.invariant in (
      omega arith,
      rw c.if-t-following.false at
          (passed_here c.requires.0 run.0 run.1 c.term_at-t.ensures
          (elim c.if-t-eq-SAME.branch [
            | then-t-eq-SAME+else-not-is_marked w ↦ closed_same _ _ _ _ w.if-t-eq-SAME.true (sym w.is_marked.ensures ∙ w.if-not-is_marked.false)
            | else-t-eq-SAME w ↦ closed_apart _ _ _ _ w.if-t-eq-SAME.false
          ])),
      omega (arith, loop-a-smaller c, run.2),
    )

-- ---- an open term
pub returns-then-not-is_marked : goal.returns-then-not-is_marked
returns-then-not-is_marked c =
    let run = c.loop-a.invariant in
    let walked = passing_through c.chain.invariant run.1 in
    rw c.split_on.ensures
    (record {
      node = λ ds map table w.
          splits_here c.requires.0 walked (table-says map table) w run.0 c.term_at-t.ensures c.if-t-eq-SAME.true
          (sym c.is_marked.ensures ∙ c.if-not-is_marked.true);
      leaves = λ ds map table w. leaves_here c.requires.0 walked (table-says map table) w run.0 c.term_at-t.ensures c.if-t-eq-SAME.true;
    })

-- ---- no term is left
pub returns : goal.returns
returns c =
    record { node = λ ds map table w. none_left c.requires.0 c.chain.invariant (table-says map table) w c.chain-test.false; leaves = λ ds map table w. tt }
