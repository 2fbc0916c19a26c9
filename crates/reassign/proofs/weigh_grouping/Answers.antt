-- `reassign::weigh_grouping`: the entries are the numbers that the grouping gives, before and with the lot's new number.
use Prim.Native.Nat.{◌≤◌, ◌<◌}
use mathlib.Core.Path.{◌∙◌}
use native.Mathlib.Omega.{arith}
use lib.ListN.{length, length-set}
use Rattle.sheet.specs.Format.{most_lots, lot_count}
use Rattle.sheet.proofs.Accepted.{sound}
use Rattle.evaluator.proofs.Lots.{same_number}
use Rattle.reassign.proofs.Entries.{weights_same}
use Rattle.reassign.proofs.weigh_grouping.Goals as goal

pub number_lots-requires : goal.number_lots-requires
number_lots-requires c =
    -- Each lot has an entry.
    let lots_most : c.args.n ≤ most_lots = omega (arith, c.requires.lots, (sound c.args.sheet.now c.requires.sheet.accepted).header.lots) in
    omega (arith, lots_most, c.requires.room)

pub bounds-after-i : goal.bounds-after-i
bounds-after-i c =
    let lots_most : c.args.n ≤ most_lots = omega (arith, c.requires.lots, (sound c.args.sheet.now c.requires.sheet.accepted).header.lots) in
    omega (arith, lots_most, c.requires.high)

pub weigh-requires : goal.weigh-requires
weigh-requires c =
    let lots_most : c.args.n ≤ most_lots = omega (arith, c.requires.lots, (sound c.args.sheet.now c.requires.sheet.accepted).header.lots) in
    let numbered = c.number_lots in
    let room : lot_count c.args.sheet.now < length numbered.new.numbers = omega (arith, lots_most, c.requires.lots, numbered.auto.numbers) in
    (record { sheet = c.requires.sheet; room = room }, record { sheet = c.requires.sheet; room = simp length-set room })

pub returns : goal.returns
returns c =
    let lots_most : c.args.n ≤ most_lots = omega (arith, c.requires.lots, (sound c.args.sheet.now c.requires.sheet.accepted).header.lots) in
    let numbered = c.number_lots in
    let s = c.args.sheet.now in
    let grouping = c.args.grouping.now in
    let numbers = numbered.new.numbers in
    c.weigh.ensures
    ∙ weights_same s grouping c.args.n c.args.m c.args.lot.0 c.requires c.args.value numbers
    (omega (arith, lots_most, c.requires.lots, numbered.auto.numbers))
    (same_number s numbers grouping numbered.ensures.zero (λ i less. numbered.ensures.numbered i (omega (arith, c.requires.lots))))
