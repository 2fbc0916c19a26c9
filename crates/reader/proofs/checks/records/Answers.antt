-- `reader::checks::records` meets its contract. The loop's invariant: each record before the present one is vacant or well formed.
use Prim.Native.Nat.{ℕ, ◌≤◌}
use mathlib.Core.Bool.{Bool, not, ◌||◌}
use mathlib.Core.List.{List}
use mathlib.Core.Path.{sym, ap, ◌∙◌}
use native.Mathlib.Omega.{arith}
use Rattle.sheet.specs.Format.{lowest_lot, record_count, vacant}
use Rattle.sheet.specs.Checks.{check5, well_formed}
use Rattle.sheet.proofs.Loops.{end, refused, passed}
use Rattle.sheet.proofs.Accepted.{records-counted}
use Rattle.reader.proofs.checks.records.Goals as goal

abbrev badly_formed : List ℕ → ℕ → Bool
badly_formed s r = not (vacant s r || well_formed lowest_lot s r)

pub returns-then-not-vacant_or_formed : goal.returns-then-not-vacant_or_formed
unfolding check5
returns-then-not-vacant_or_formed c =
    let in_range : c.loop-r.r ≤ record_count c.args.sheet.now = omega (arith, records-counted c.requires) in
    refused c.loop-r.invariant (in_range) (ap not (sym c.vacant_or_formed.ensures) ∙ c.if-not-vacant_or_formed.true-raw)

pub loop-r-preserved : goal.loop-r-preserved
loop-r-preserved c =
    let in_range : c.loop-r.r ≤ record_count c.args.sheet.now = omega (arith, records-counted c.requires) in
    passed c.loop-r.invariant (in_range) (ap not (sym c.vacant_or_formed.ensures) ∙ c.if-not-vacant_or_formed.false-raw)

-- After the last record.
pub returns-else-not-vacant_or_formed : goal.returns-else-not-vacant_or_formed
unfolding check5
returns-else-not-vacant_or_formed c =
    let in_range : c.loop-r.r ≤ record_count c.args.sheet.now = omega (arith, records-counted c.requires) in
    end (passed c.loop-r.invariant (in_range) (ap not (sym c.vacant_or_formed.ensures) ∙ c.if-not-vacant_or_formed.false-raw))
    (omega (arith, records-counted c.requires))

pub returns : goal.returns
unfolding check5
returns c =
    end c.loop-r.invariant (omega (arith, records-counted c.requires))
