-- `reader::once::walk` meets its contract. The loop's invariant: the walk along all chains is what it is from the present condition on,
-- after the records that the flags stand for. The measure is how many conditions are left.
use Prim.Native.Nat.{◌≤◌}
use mathlib.Core.Path.{refl, ◌∙◌}
use native.Mathlib.Omega.{arith}
use Rattle.sheet.specs.Format.{condition_count}
use Rattle.sheet.proofs.Accepted.{conditions-counted}
use Rattle.sheet.proofs.Refusals.{passed_on_is}
use Rattle.reader.proofs.WalkLoops.{none_yet, all_walked, chain-refused, chain-passed}
use Rattle.reader.proofs.once.walk.Goals as goal

pub loop-c-init : goal.loop-c-init
loop-c-init c =
    none_yet c.args.sheet.now c.requires.0.flaggable.room c.requires.1

pub returns-in_err-walk_chain : goal.returns-in_err-walk_chain
returns-in_err-walk_chain c =
    let in_range : c.loop-c.c ≤ condition_count c.args.sheet.now = omega (arith, conditions-counted c.requires.0.flaggable.header) in
    let i = c.loop-c.invariant in
    rw (passed_on_is c.from_residual.ensures.1)
    (chain-refused i (in_range) refl c.walk_chain.new.flags (rw c.head_at-head.ensures at (c.in_err-walk_chain.ensures i.seen i.stand)))

pub loop-c-preserved : goal.loop-c-preserved
loop-c-preserved c =
    let in_range : c.loop-c.c ≤ condition_count c.args.sheet.now = omega (arith, conditions-counted c.requires.0.flaggable.header) in
    let i = c.loop-c.invariant in
    chain-passed i (in_range) refl (c.walk_chain.auto.flags ∙ i.room) (rw c.head_at-head.ensures at (c.in_ok-walk_chain.ensures i.seen i.stand))

-- After the chain of the last condition.
pub returns-in_ok-walk_chain : goal.returns-in_ok-walk_chain
returns-in_ok-walk_chain c =
    let in_range : c.loop-c.c ≤ condition_count c.args.sheet.now = omega (arith, conditions-counted c.requires.0.flaggable.header) in
    let i = c.loop-c.invariant in
    all_walked (chain-passed i (in_range) refl (c.walk_chain.auto.flags ∙ i.room) (rw c.head_at-head.ensures at (c.in_ok-walk_chain.ensures i.seen i.stand)))
    (omega (arith, conditions-counted c.requires.0.flaggable.header))

pub returns : goal.returns
returns c =
    all_walked c.loop-c.invariant (omega (arith, conditions-counted c.requires.0.flaggable.header))
