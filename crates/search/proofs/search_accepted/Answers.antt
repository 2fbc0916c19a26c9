-- `search::search_accepted`: the visits have the first n bytes of the grouping and the whole records of the store; how they end is the search's result.
use Prim.Native.Nat.{◌≤◌}
use mathlib.Core.Path.{◌∙◌}
use native.Mathlib.Omega.{arith}
use lib.Seq.{length-take-le}
use Rattle.sheet.specs.Format.{most_lots}
use Rattle.sheet.proofs.Accepted.{sound}
use Rattle.search.proofs.Ending.{whole-records, ends-met, ends_cannot, ends_full}
use Rattle.search.proofs.search_accepted.Goals as goal

-- Met,
pub returns-in-Met : goal.returns-in-Met
returns-in-Met c =
    let lots-within : c.args.n ≤ most_lots = omega (arith, c.requires.1, (sound c.args.sheet.now c.requires.0.accepted).header.lots) in
    rw c.capacity_of-capacity.ensures
    (ends-met c.args.n c.args.grouping.now _ c.args.store.now _ _ _ (lots-within) c.requires.2
    (rw c.capacity_of-capacity.ensures at c.start-visited.ensures) c.in-Met.count c.in-Met.is)

-- cannot,
pub returns-in-Cannot : goal.returns-in-Cannot
returns-in-Cannot c =
    let lots-within : c.args.n ≤ most_lots = omega (arith, c.requires.1, (sound c.args.sheet.now c.requires.0.accepted).header.lots) in
    rw c.capacity_of-capacity.ensures
    (ends_cannot c.args.n c.args.grouping.now _ c.args.store.now _ _ _ (lots-within) c.requires.2
    (rw c.capacity_of-capacity.ensures at c.start-visited.ensures) c.in-Cannot.count c.in-Cannot.is)

-- or full.
pub returns-in-Full : goal.returns-in-Full
returns-in-Full c =
    let lots-within : c.args.n ≤ most_lots = omega (arith, c.requires.1, (sound c.args.sheet.now c.requires.0.accepted).header.lots) in
    rw c.capacity_of-capacity.ensures
    (ends_full c.args.n c.args.grouping.now _ c.args.store.now _ _ _ (lots-within) c.requires.2
    (rw c.capacity_of-capacity.ensures at c.start-visited.ensures) c.in-Full.is _
    (rw c.capacity_of-capacity.ensures at c.start-visited.auto.store ∙ length-take-le _ _ (whole-records c.args.store.now))
    (rw c.capacity_of-capacity.ensures at c.clear.ensures))
