-- The word, the lots' bytes in turn, and the line's end.
use Prim.Native.Nat.{suc}
use mathlib.Core.List.{map}
use native.Mathlib.Numerals.{add-one}
use lib.ListN.{drop}
use Rattle.lines.specs.Lines.{decimal, met_word, met_line}
use Rattle.lines.proofs.Fields.{after, start_line, next_field}
use Rattle.lines.proofs.Appending.{room, then}
use Rattle.lines.proofs.Text.met_line.Goals as goal

pub word-requires : goal.word-requires
unfolding met_line
word-requires c =
    let fields = map decimal c.args.grouping.now in
    room met_word (after fields) (start_line c.args.self.now met_word fields c.requires)

pub loop-lot-init : goal.loop-lot-init
unfolding met_line
loop-lot-init c =
    let fields = map decimal c.args.grouping.now in
    then (after fields) c.word.ensures (start_line c.args.self.now met_word fields c.requires)

pub loop-lot-preserved : goal.loop-lot-preserved
loop-lot-preserved c =
    let grouping = c.args.grouping.now in
    let i = c.loop-lot.lot-index in
    rw (add-one i)
    (then (after (map decimal (drop (suc i) grouping))) (rw c.from.ensures at c.field.ensures) (next_field grouping i c.loop-lot.invariant c.loop-lot-test.true))
