-- `reader::checks::heads` meets its contract. The loop's invariant: no head before the present condition is above k.
use Prim.Native.Nat.{ℕ, ◌≤◌}
use mathlib.Core.Bool.{Bool}
use mathlib.Core.List.{List}
use native.Mathlib.Omega.{arith}
use lib.Dec.{ltb}
use borrow.Author.Tests.{lt-ltb, le-ltb}
use Rattle.sheet.specs.Format.{condition_count, record_count, head_at}
use Rattle.sheet.specs.Checks.{check4}
use Rattle.sheet.proofs.Loops.{start, end, refused, passed}
use Rattle.sheet.proofs.Accepted.{conditions-counted, records-counted}
use Rattle.reader.proofs.checks.heads.Goals as goal

abbrev above_records : List ℕ → ℕ → Bool
above_records s c = ltb (record_count s) (head_at s c)

pub loop-c-init : goal.loop-c-init
loop-c-init c =
    start

pub returns-then-h-head : goal.returns-then-h-head
unfolding check4
returns-then-h-head c =
    let in_range : c.loop-c.c ≤ condition_count c.args.sheet.now = omega (arith, conditions-counted c.requires) in
    let s : List ℕ = c.args.sheet.now in
    refused c.loop-c.invariant (in_range)
    (lt-ltb (record_count s) (head_at s c.loop-c.c) (omega (arith, records-counted c.requires, c.head_at-head.ensures)))

pub loop-c-preserved : goal.loop-c-preserved
loop-c-preserved c =
    let in_range : c.loop-c.c ≤ condition_count c.args.sheet.now = omega (arith, conditions-counted c.requires) in
    let s : List ℕ = c.args.sheet.now in
    passed c.loop-c.invariant (in_range)
    (le-ltb (record_count s) (head_at s c.loop-c.c) (omega (arith, records-counted c.requires, c.head_at-head.ensures)))

-- After the last condition.
pub returns-else-h-head : goal.returns-else-h-head
unfolding check4
returns-else-h-head c =
    let in_range : c.loop-c.c ≤ condition_count c.args.sheet.now = omega (arith, conditions-counted c.requires) in
    let s : List ℕ = c.args.sheet.now in
    end (passed c.loop-c.invariant (in_range)
    (le-ltb (record_count s) (head_at s c.loop-c.c) (omega (arith, records-counted c.requires, c.head_at-head.ensures))))
    (omega (arith, conditions-counted c.requires))

pub returns : goal.returns
unfolding check4
returns c =
    end c.loop-c.invariant (omega (arith, conditions-counted c.requires))
