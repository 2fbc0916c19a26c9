-- In a turn the next record's line is the first that is left. After the last none is.
use Prim.Native.Nat.{suc}
use native.Mathlib.Numerals.{add-one}
use native.Mathlib.Omega.{arith}
use Rattle.store.specs.Records.{record_at}
use Rattle.lines.specs.Lines.{record_line, record_lines}
use Rattle.lines.proofs.Fields.{records_from, next_record, no_record}
use Rattle.lines.proofs.Appending.{room, then, done}
use Rattle.lines.proofs.Text.record_lines.Goals as goal

pub record_line-requires : goal.record_line-requires
record_line-requires c =
    let store = c.args.store.now in
    let i = c.loop-i.i in
    rw c.read.ensures
    (room (record_line (record_at store i)) (record_lines (records_from store c.args.count (suc i))) (next_record store c.args.count i c.loop-i.invariant c.loop-i-test.true))

pub loop-i-preserved : goal.loop-i-preserved
loop-i-preserved c =
    let store = c.args.store.now in
    let i = c.loop-i.i in
    rw (add-one i)
    (then (record_lines (records_from store c.args.count (suc i))) (rw c.read.ensures at c.record_line.ensures) (next_record store c.args.count i c.loop-i.invariant c.loop-i-test.true))

pub returns : goal.returns
returns c = done (no_record c.args.store.now c.args.count c.loop-i.i c.loop-i.invariant (omega (arith, c.loop-i-test.false)))

pub returns-2 : goal.returns-2
returns-2 c =
    let store = c.args.store.now in
    let i = c.loop-i.i in
    let after = then (record_lines (records_from store c.args.count (suc i))) (rw c.read.ensures at c.record_line.ensures) (next_record store c.args.count i c.loop-i.invariant c.loop-i-test.true) in
    done (no_record store c.args.count (suc i) after (omega arith))
