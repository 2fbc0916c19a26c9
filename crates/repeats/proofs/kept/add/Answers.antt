use Prim.Native.Nat.{ℕ}
use mathlib.Core.Path.{sym, ap, subst}
use native.Mathlib.Omega.{arith}
use lib.ListN.{length}
use Rattle.std.proofs.lemmas.List.{drop_more, drop_all}
use Rattle.buffers.proofs.Lists.{all_nth}
use Rattle.sheet.specs.Conditions.{condition_at}
use Rattle.writer.specs.Drafts.{draft, RoomFor}
use Rattle.writer.proofs.Packing.{packing_room, packing_next, packing_end}
use Rattle.repeats.specs.Inner.{EntryOf, kept_of}
use Rattle.repeats.proofs.kept.add.Goals as goal

pub add_condition-next-requires : goal.add_condition-next-requires
add_condition-next-requires c =
    let s = c.args.sheet.now in
    let l = c.loop-entry in
    -- The entry is one of the sheet's, and its condition is the first of those that are left.
    let entry = all_nth (EntryOf s) _ 0 c.requires.1 _ c.loop-entry-test.true in
    let first = ap (kept_of s) (drop_more _ _ 0 c.loop-entry-test.true) in
    let number = sym c.number_in.ensures in (
      c.requires.0,
      omega (arith, number, entry.low),
      omega (arith, number, entry.high),
      subst (λ (i : ℕ). RoomFor 1 (length (condition_at s i)) (draft l.out l.next)) number (packing_room l.invariant first),
    )

pub loop-entry-preserved : goal.loop-entry-preserved
loop-entry-preserved c =
    let first = ap (kept_of c.args.sheet.now) (drop_more _ _ 0 c.loop-entry-test.true) in
    rw (c.add_condition-next.ensures, c.number_in.ensures) (packing_next c.loop-entry.invariant first)

pub returns : goal.returns
returns c =
    let none = drop_all c.loop-entry.entry-index c.args.entries.now (omega (arith, c.loop-entry-test.false)) in
    packing_end c.loop-entry.invariant (ap (kept_of c.args.sheet.now) none)
