use borrow.Author.Tests.{not-true, not-false}
use Prim.Native.Nat.{◌-◌}
use mathlib.Core.Path.{◌≡◌, sym, ap, ◌∙◌}
use native.Mathlib.Omega.{arith}
use Rattle.leaves.proofs.Splits.{latest_of, latest_none, same-passed, found, passed, passed_by_xor}
use Rattle.leaves.proofs.latest_between.Goals as goal
use Rattle.leaves.proofs.latest_between.Goals.{else-u-v-via-then-u-v+else-between, else-u-v-via-else-u-v}

-- The pair that is read is that of the last of the splits that are left: it is set apart between the classes;
pub returns-then-between : goal.returns-then-between
returns-then-between c =
    let a = c.args in
    let i = c.loop-i.i in
    let pair = c.pair_at-pair in
    c.loop-i.invariant
    ∙ found a.lots.now a.path.now a.x a.y i (i - 1) (omega arith) pair.result pair.ensures.decision (not-true _ c.if-not-pair.true)
    (sym c.between.ensures ∙ c.if-between.true)
    ∙ omega arith

-- not between them, or its exclusive or tells that it isn't;
pub loop-i-preserved-else-u-v : goal.loop-i-preserved-else-u-v
loop-i-preserved-else-u-v c =
    let a = c.args in
    let i = c.loop-i.i in
    let pair = c.pair_at-pair in
    c.loop-i.invariant
    ∙ elim c.else-u-v.branch [
      | else-u-v-via-then-u-v+else-between w ↦
          passed a.lots.now a.path.now a.x a.y i (i - 1) (omega arith) pair.result pair.ensures.decision (not-true _ c.if-not-pair.true)
          (sym w.between.ensures ∙ w.if-between.false)
      | else-u-v-via-else-u-v w ↦
          passed_by_xor a.lots.now a.path.now a.x a.y i (i - 1) (omega arith) pair.result pair.ensures.decision (not-true _ c.if-not-pair.true) w.if-u-v.false
    ]

-- or set same.
pub loop-i-preserved : goal.loop-i-preserved
loop-i-preserved c =
    let a = c.args in
    let i = c.loop-i.i in
    let pair = c.pair_at-pair in
    c.loop-i.invariant
    ∙ same-passed a.lots.now a.path.now a.x a.y i (i - 1) (omega arith) pair.result pair.ensures.decision (not-false _ c.if-not-pair.false)

pub returns : goal.returns
returns c =
    let a = c.args in
    let done : c.loop-i.i ≡ 0 = omega arith in
    c.loop-i.invariant ∙ ap (latest_of a.lots.now a.path.now a.x a.y) done ∙ latest_none a.lots.now a.path.now a.x a.y
