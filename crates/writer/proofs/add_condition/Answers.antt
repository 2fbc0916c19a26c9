-- `writer::add_condition`: a head, then the terms of the condition's chain.
use native.Mathlib.Omega.{arith}
use lib.ListN.{length}
use Rattle.sheet.specs.Conditions.{condition_at}
use Rattle.sheet.proofs.Accepted.{sound}
use Rattle.sheet.proofs.ChainEnds.{head-on}
use Rattle.writer.specs.Drafts.{draft}
use Rattle.writer.proofs.Rooms.{room-condition}
use Rattle.writer.proofs.add_condition.Goals as goal

pub head_at-head-requires : goal.head_at-head-requires
head_at-head-requires c =
    (c.requires.1, omega (arith, c.requires.2, (sound c.args.sheet.now c.requires.0.accepted).header.whole))

pub add_chain-requires : goal.add_chain-requires
add_chain-requires c =
    let s = c.args.sheet.now in
    let number = c.args.c.0 in
    let before = draft c.args.out.now c.args.w in (
      c.requires.0,
      rw c.head_at-head.ensures (head-on s c.requires.0.accepted number c.requires.1 c.requires.2),
      rw (c.head_at-head.ensures, c.begin_condition-begun.ensures) (room-condition 0 (length (condition_at s number)) before c.requires.3),
    )
