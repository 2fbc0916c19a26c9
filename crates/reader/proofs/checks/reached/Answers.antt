-- `reader::checks::reached` meets its contract. The loop's invariant: each record before the present one is vacant or flagged.
use Prim.Native.Nat.{ℕ, ◌≤◌}
use mathlib.Core.Bool.{Bool, not, ◌||◌}
use mathlib.Core.List.{List}
use mathlib.Core.Path.{sym, ◌∙◌}
use native.Mathlib.Omega.{arith}
use Rattle.sheet.specs.Format.{record_count, vacant}
use Rattle.sheet.specs.Inner.{is_flagged, unflagged_verdict}
use Rattle.sheet.proofs.Accepted.{records-counted}
use Rattle.sheet.proofs.Loops.{end, refused, passed}
use Rattle.reader.proofs.checks.reached.Goals as goal

abbrev left_out : List ℕ → List ℕ → ℕ → Bool
left_out s flags r = not (vacant s r || is_flagged flags r)

pub returns-then-left_out : goal.returns-then-left_out
unfolding unflagged_verdict
returns-then-left_out c =
    let in_range : c.loop-r.r ≤ record_count c.args.sheet.now = omega (arith, records-counted c.requires.header) in
    refused c.loop-r.invariant (in_range) (sym c.left_out.ensures ∙ c.if-left_out.true)

pub loop-r-preserved : goal.loop-r-preserved
loop-r-preserved c =
    let in_range : c.loop-r.r ≤ record_count c.args.sheet.now = omega (arith, records-counted c.requires.header) in
    passed c.loop-r.invariant (in_range) (sym c.left_out.ensures ∙ c.if-left_out.false)

-- After the last record.
pub returns-else-left_out : goal.returns-else-left_out
unfolding unflagged_verdict
returns-else-left_out c =
    let in_range : c.loop-r.r ≤ record_count c.args.sheet.now = omega (arith, records-counted c.requires.header) in
    end (passed c.loop-r.invariant (in_range) (sym c.left_out.ensures ∙ c.if-left_out.false))
    (omega (arith, records-counted c.requires.header))

pub returns : goal.returns
unfolding unflagged_verdict
returns c =
    end c.loop-r.invariant (omega (arith, records-counted c.requires.header))
