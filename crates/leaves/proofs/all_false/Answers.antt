use Prim.Native.Nat.{◌+◌}
use mathlib.Core.Bool.{not}
use mathlib.Core.Path.{◌≡◌, sym, ap, ◌∙◌}
use native.Mathlib.Omega.{arith}
use Rattle.equality.proofs.Passing.{passing_through, ended}
use Rattle.equality.proofs.Walking.{record_here, following_fits, lots_here, rest_here, passed_here, true_here}
use Rattle.marks.specs.Marks.{mark_at}
use Rattle.leaves.proofs.Grounds.{allows_term}
use Rattle.leaves.proofs.all_false.Goals as goal

pub overflow_add-following : goal.overflow_add-following
overflow_add-following c =
    let run = c.loop-t.invariant in
    omega (arith, following_fits c.requires.0 run.0 run.1)

pub term_at-t-requires : goal.term_at-t-requires
term_at-t-requires c =
    let run = c.loop-t.invariant in
    record_here c.requires.0 run.0 run.1

pub bounds-lots-a : goal.bounds-lots-a
bounds-lots-a c =
    let run = c.loop-t.invariant in
    omega (arith, lots_here c.requires.0 run.0 run.1 c.term_at-t.ensures, c.requires.1.size)

pub bounds-lots-b : goal.bounds-lots-b
bounds-lots-b c =
    let run = c.loop-t.invariant in
    omega (arith, lots_here c.requires.0 run.0 run.1 c.term_at-t.ensures, c.requires.1.size)

-- ---- a term that is true or open
pub returns-then-allows : goal.returns-then-allows
returns-then-allows c =
    let t = c.term_at-t.result in
    let run = c.loop-t.invariant in
    ap not
    (sym
    (true_here c.requires.0 run.0 (passing_through c.chain.invariant run.1) c.term_at-t.ensures
    (allows_term c.args.lots.now (mark_at c.args.table.now 0) t.sign t.a.0 t.b.0 ∙ sym c.allows.ensures ∙ c.if-allows.true)))

-- ---- a false one is passed

-- The run is over;
pub chain-smaller : goal.chain-smaller
chain-smaller c =
    let run = c.loop-t.invariant in
    omega (arith, rest_here c.requires.0 run.0 run.1 c.term_at-t.ensures, run.2)

pub chain-preserved : goal.chain-preserved
chain-preserved c =
    let t = c.term_at-t.result in
    let run = c.loop-t.invariant in
    passing_through c.chain.invariant
    (passed_here c.requires.0 run.0 run.1 c.term_at-t.ensures (allows_term c.args.lots.now (mark_at c.args.table.now 0) t.sign t.a.0 t.b.0 ∙ sym c.allows.ensures ∙ c.if-allows.false))

-- or the record's next is the following one.
pub loop-t-smaller : goal.loop-t-smaller
loop-t-smaller c =
    let run = c.loop-t.invariant in
    let followed : c.term_at-t.result.next.0 ≡ c.loop-t.at.0 + 1 = c.if-t-following.false in
    rw followed at (rest_here c.requires.0 run.0 run.1 c.term_at-t.ensures)

pub loop-t-preserved : goal.loop-t-preserved
loop-t-preserved c =
    let t = c.term_at-t.result in
    let run = c.loop-t.invariant in (
      omega arith,
      rw c.if-t-following.false at
          (passed_here c.requires.0 run.0 run.1 c.term_at-t.ensures (allows_term c.args.lots.now (mark_at c.args.table.now 0) t.sign t.a.0 t.b.0 ∙ sym c.allows.ensures ∙ c.if-allows.false)),
      omega (arith, loop-t-smaller c, run.2),
    )

-- ---- no term is left
pub returns : goal.returns
returns c = ap not (sym (ended _ c.args.sheet.now c.requires.0.accepted c.args.head.0 c.chain.at.0 c.chain.invariant c.chain-test.false))
