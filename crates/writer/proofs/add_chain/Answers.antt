-- `writer::add_chain`: the terms that are left, added to what there is now, come to all of them; what is left of the chain falls.
use Prim.Native.Nat.{◌<◌}
use mathlib.Core.Path.{sym, subst}
use native.Mathlib.Omega.{arith}
use lib.ListN.{length}
use Rattle.sheet.specs.declared.Term.{Term}
use Rattle.sheet.specs.Conditions.{records_from}
use Rattle.sheet.proofs.Accepted.{has_record, sound}
use Rattle.sheet.proofs.ChainEnds.{on_sound, rest_shorter}
use Rattle.writer.proofs.Adding.{adding_room, adding_next, adding_end}
use Rattle.writer.proofs.add_chain.Goals as goal

pub term_at-t-requires : goal.term_at-t-requires
term_at-t-requires c =
    let can = c.requires.0 in
    rw can.counted (has_record (sound c.args.sheet.now can.accepted).header c.loop-at.at.0 (omega arith) c.loop-at.invariant.on.within)

pub add_term-next-requires : goal.add_term-next-requires
add_term-next-requires c =
    let ok = c.requires.0.accepted in (
      rw c.term_at-t.ensures (on_sound c.args.sheet.now ok c.loop-at.at.0 (omega arith) c.loop-at.invariant.on).sign,
      adding_room c.loop-at.invariant ok (omega arith),
    )

pub loop-at-smaller : goal.loop-at-smaller
loop-at-smaller c =
    let s = c.args.sheet.now in
    let r = c.loop-at.at.0 in
    subst (λ (t : Term). length (records_from s t.next.0) < length (records_from s r)) (sym c.term_at-t.ensures)
    (rest_shorter s c.requires.0.accepted r (omega arith) c.loop-at.invariant.on.within)

pub loop-at-preserved : goal.loop-at-preserved
loop-at-preserved c =
    rw (c.add_term-next.ensures, c.term_at-t.ensures) (adding_next c.loop-at.invariant c.requires.0.accepted (omega arith))

pub returns : goal.returns
returns c =
    adding_end c.loop-at.invariant c.loop-at-test.false
