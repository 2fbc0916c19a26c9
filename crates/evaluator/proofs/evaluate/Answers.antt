-- `evaluator::evaluate`: the reader's refusal, the grouping's, or the lowest unmet condition.
use Prim.Native.Nat.{ℕ}
use mathlib.Core.List.{List}
use mathlib.Core.Path.{sym, ap, ◌∙◌}
use native.Mathlib.Omega.{arith}
use Rattle.sheet.specs.Verdicts.{Refuses}
use Rattle.sheet.proofs.Refusals.{passed_on_is}
use Rattle.sheet.proofs.Readings.{read_accepts, read_refuses}
use Rattle.equality.proofs.Checked.{sheet-refused, grouping-short, all_pass}
use Rattle.evaluator.proofs.Entry.{refused_by, found}
use Rattle.evaluator.proofs.evaluate.Goals as goal

pub returns-in_err-h : goal.returns-in_err-h
returns-in_err-h c =
    let s : List ℕ = c.args.sheet.now in
    let grouping : List ℕ = c.args.grouping.now in
    rw (passed_on_is c.from_residual.ensures.1)
    (refused_by s grouping c.in_err-h.field-0.0 (sheet-refused s grouping _ _ (read_refuses s _ _ c.in_err-h.ensures)))

pub returns-then-grouping-h : goal.returns-then-grouping-h
returns-then-grouping-h c =
    let s : List ℕ = c.args.sheet.now in
    let grouping : List ℕ = c.args.grouping.now in
    let a = read_accepts s _ _ _ c.in_ok-h.ensures in
    refused_by s grouping _
    (grouping-short s grouping a.accepted (omega (arith, a.lots, c.if-grouping-h.true)) ∙ ap (λ (n : ℕ). Refuses 8 n) (sym a.lots))

pub evaluate_accepted-requires : goal.evaluate_accepted-requires
evaluate_accepted-requires c =
    let a = read_accepts _ _ _ _ c.in_ok-h.ensures in
    (record { accepted = a.accepted; counted = a.conditions }, a.lots, omega (arith, c.if-grouping-h.false))

pub returns : goal.returns
returns c =
    let s : List ℕ = c.args.sheet.now in
    let grouping : List ℕ = c.args.grouping.now in
    let a = read_accepts s _ _ _ c.in_ok-h.ensures in
    found s grouping (all_pass s grouping a.accepted (omega (arith, a.lots, c.if-grouping-h.false))) c.evaluate_accepted.ensures
