use Prim.Native.Nat.{ℕ, suc, ◌<◌}
use mathlib.Core.List.{◌∷◌}
use mathlib.Core.Path.{◌≡◌, sym, subst}
use native.Mathlib.Numerals.{add-one}
use native.Mathlib.Omega.{arith}
use lib.ListN.{length, drop}
use Rattle.sheet.specs.Format.{condition_count}
use Rattle.sheet.specs.Conditions.{condition_at, conditions}
use Rattle.sheet.proofs.Accepted.{sound}
use Rattle.sheet.proofs.Conditions.{conditions_step, conditions_end}
use Rattle.writer.specs.Drafts.{draft, RoomFor}
use Rattle.writer.proofs.Packing.{packing_start, packing_room, packing_next, packing_end}
use Rattle.repack.proofs.add_conditions.Goals as goal

pub loop-c-init : goal.loop-c-init
loop-c-init c =
    (omega arith, packing_start _ _ c.requires.1)

pub overflow_add-c : goal.overflow_add-c
overflow_add-c c =
    -- The next condition is one of the sheet's.
    let below : c.loop-c.c < condition_count c.args.sheet.now = omega (arith, c.loop-c-test.true, c.requires.0.counted) in
    omega (arith, below, (sound c.args.sheet.now c.requires.0.accepted).header.conditions)

pub add_condition-next-requires : goal.add_condition-next-requires
add_condition-next-requires c =
    let below : c.loop-c.c < condition_count c.args.sheet.now = omega (arith, c.loop-c-test.true, c.requires.0.counted) in
    -- It is the first of those that are left.
    let first : drop c.loop-c.c (conditions c.args.sheet.now) ≡ condition_at c.args.sheet.now (suc c.loop-c.c) ∷ drop (suc c.loop-c.c) (conditions c.args.sheet.now) = conditions_step c.args.sheet.now c.loop-c.c below in
    let one = sym (add-one c.loop-c.c) in (
      c.requires.0,
      omega arith,
      omega (arith, below),
      subst (λ (i : ℕ). RoomFor 1 (length (condition_at c.args.sheet.now i)) (draft c.loop-c.out c.loop-c.next)) one (packing_room c.loop-c.invariant.1 first),
    )

pub loop-c-smaller : goal.loop-c-smaller
loop-c-smaller c =
    omega (arith, c.loop-c-test.true)

pub loop-c-preserved : goal.loop-c-preserved
loop-c-preserved c =
    let below : c.loop-c.c < condition_count c.args.sheet.now = omega (arith, c.loop-c-test.true, c.requires.0.counted) in
    let first : drop c.loop-c.c (conditions c.args.sheet.now) ≡ condition_at c.args.sheet.now (suc c.loop-c.c) ∷ drop (suc c.loop-c.c) (conditions c.args.sheet.now) = conditions_step c.args.sheet.now c.loop-c.c below in
    rw (c.add_condition-next.ensures, add-one c.loop-c.c) (below, packing_next c.loop-c.invariant.1 first)

pub returns : goal.returns
returns c =
    packing_end c.loop-c.invariant.1 (conditions_end c.args.sheet.now c.loop-c.c (omega (arith, c.loop-c-test.false, c.requires.0.counted)))
