-- The word, the numbers in turn, and the line's end.
use Prim.Native.Nat.{suc}
use mathlib.Core.List.{map}
use native.Mathlib.Numerals.{add-one}
use lib.ListN.{drop}
use Rattle.lines.specs.Lines.{decimal}
use Rattle.lines.proofs.Fields.{after, start_line, next_field}
use Rattle.lines.proofs.Appending.{room, then}
use Rattle.lines.proofs.Text.line.Goals as goal

pub word-requires : goal.word-requires
word-requires c =
    let fields = map decimal c.args.numbers.now in
    room c.args.word.now (after fields) (start_line c.args.self.now c.args.word.now fields c.requires)

pub loop-x-init : goal.loop-x-init
loop-x-init c =
    let fields = map decimal c.args.numbers.now in
    then (after fields) c.word.ensures (start_line c.args.self.now c.args.word.now fields c.requires)

pub loop-x-preserved : goal.loop-x-preserved
loop-x-preserved c =
    let numbers = c.args.numbers.now in
    let i = c.loop-x.x-index in
    rw (add-one i) (then (after (map decimal (drop (suc i) numbers))) c.field.ensures (next_field numbers i c.loop-x.invariant c.loop-x-test.true))
