-- `counter::count_unmet`: the reader's refusal, the grouping's, or the count.
use Prim.Native.Nat.{ℕ}
use mathlib.Core.List.{List}
use mathlib.Core.Path.{ap, ◌∙◌}
use native.Mathlib.Omega.{arith}
use Rattle.sheet.specs.Verdicts.{Passes, Refuses}
use Rattle.sheet.specs.Answers.{refused, answered}
use Rattle.sheet.proofs.Refusals.{passed_on_is}
use Rattle.sheet.proofs.Readings.{read_accepts, read_refuses}
use Rattle.equality.proofs.Checked.{sheet-refused, grouping-short, all_pass}
use Rattle.counter.proofs.Entry.{answer_by_lem, ensured}
use Rattle.counter.proofs.count_unmet.Goals as goal

pub returns-in_err-h : goal.returns-in_err-h
returns-in_err-h c =
    let s : List ℕ = c.args.sheet.now in
    let grouping : List ℕ = c.args.grouping.now in
    rw (passed_on_is c.from_residual.ensures.1)
    (ensured s grouping (answer_by_lem s grouping (Refuses _ _) (sheet-refused s grouping _ _ (read_refuses s _ _ c.in_err-h.ensures))))

pub returns-then-grouping-h : goal.returns-then-grouping-h
returns-then-grouping-h c =
    let s : List ℕ = c.args.sheet.now in
    let grouping : List ℕ = c.args.grouping.now in
    let a = read_accepts s _ _ _ c.in_ok-h.ensures in
    ensured s grouping
    (ap (refused 8) a.lots ∙ answer_by_lem s grouping (Refuses 8 _) (grouping-short s grouping a.accepted (omega (arith, a.lots, c.if-grouping-h.true))))

pub count_accepted-requires : goal.count_accepted-requires
count_accepted-requires c =
    let a = read_accepts _ _ _ _ c.in_ok-h.ensures in
    (record { accepted = a.accepted; counted = a.conditions }, a.lots, omega (arith, c.if-grouping-h.false))

pub returns : goal.returns
returns c =
    let s : List ℕ = c.args.sheet.now in
    let grouping : List ℕ = c.args.grouping.now in
    let a = read_accepts s _ _ _ c.in_ok-h.ensures in
    ensured s grouping
    (ap (λ (n : ℕ). answered n 0 0) c.count_accepted.ensures
    ∙ answer_by_lem s grouping Passes (all_pass s grouping a.accepted (omega (arith, a.lots, c.if-grouping-h.false))))
