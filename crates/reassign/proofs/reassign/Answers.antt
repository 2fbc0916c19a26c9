-- `reassign::reassign`: the reader's refusal, the grouping's, the lot's, or what 22 decides.
use Prim.Native.Nat.{ℕ, ◌≤◌}
use mathlib.Core.Bool.{false}
use mathlib.Core.List.{List}
use mathlib.Core.Path.{◌≡◌, refl, sym, ap, ◌∙◌}
use native.Mathlib.Omega.{arith}
use Rattle.sheet.specs.Verdicts.{Passes}
use Rattle.sheet.specs.Format.{lot_count}
use Rattle.sheet.specs.Answers.{refused}
use Rattle.sheet.proofs.Refusals.{passed_on_is}
use Rattle.sheet.proofs.Readings.{ReadAs, read_accepts, read_refuses}
use Rattle.equality.specs.Evaluator.{grouping_verdict}
use Rattle.equality.proofs.Checked.{sheet-refused, grouping-short, all_pass}
use Rattle.reassignment.specs.Reassign.{ill_lot}
use Rattle.reassignment.proofs.Checking.{lot-within, grouping-refused, lot-refused, lot-passed}
use Rattle.reassign.proofs.Entry.{ensured}
use Rattle.reassign.proofs.reassign.Goals as goal

pub returns-then-grouping-h : goal.returns-then-grouping-h
returns-then-grouping-h c =
    let s : List ℕ = c.args.sheet.now in
    let grouping : List ℕ = c.args.grouping.now in
    let count : ℕ = c.args.count in
    let lot : ℕ = c.args.lot in
    let value : ℕ = c.args.value in
    -- Where the reader accepts, the sheet is accepted, with its counts.
    let accepted : ReadAs s c.in_ok-h.h.lots c.in_ok-h.h.conditions c.in_ok-h.h.records = read_accepts _ _ _ _ c.in_ok-h.ensures in
    let short = grouping-short s grouping accepted.accepted (omega (arith, accepted.lots, c.if-grouping-h.true)) in
    ensured s grouping count lot value (grouping-refused s grouping count lot short) (ap (refused 8) accepted.lots) refl

pub returns-then-ill_lot : goal.returns-then-ill_lot
returns-then-ill_lot c =
    let s : List ℕ = c.args.sheet.now in
    let grouping : List ℕ = c.args.grouping.now in
    let count : ℕ = c.args.count in
    let lot : ℕ = c.args.lot in
    let value : ℕ = c.args.value in
    -- Where the reader accepts, the sheet is accepted, with its counts.
    let accepted : ReadAs s c.in_ok-h.h.lots c.in_ok-h.h.conditions c.in_ok-h.h.records = read_accepts _ _ _ _ c.in_ok-h.ensures in
    let long : grouping_verdict s grouping ≡ Passes = all_pass s grouping accepted.accepted (omega (arith, accepted.lots, c.if-grouping-h.false)) in
    -- The test is 21's.
    let tested : c.ill_lot.result ≡ ill_lot (lot_count s) lot = c.ill_lot.ensures ∙ ap (λ (n : ℕ). ill_lot n lot) accepted.lots in
    ensured s grouping count lot value (lot-refused s grouping count lot long (sym tested ∙ c.if-ill_lot.true)) refl refl

pub reassign_lot-requires : goal.reassign_lot-requires
reassign_lot-requires c =
    let s : List ℕ = c.args.sheet.now in
    let lot : ℕ = c.args.lot in
    -- Where the reader accepts, the sheet is accepted, with its counts.
    let accepted : ReadAs s c.in_ok-h.h.lots c.in_ok-h.h.conditions c.in_ok-h.h.records = read_accepts _ _ _ _ c.in_ok-h.ensures in
    let tested : c.ill_lot.result ≡ ill_lot (lot_count s) lot = c.ill_lot.ensures ∙ ap (λ (n : ℕ). ill_lot n lot) accepted.lots in
    let passed : ill_lot (lot_count s) lot ≡ false = sym tested ∙ c.if-ill_lot.false in
    let within : (1 ≤ lot) × (lot ≤ lot_count s) = lot-within _ _ passed in
    let r = accepted in
    record {
      sheet = record { accepted = r.accepted; counted = r.conditions };
      lots = r.lots;
      room = omega (arith, c.if-grouping-h.false);
      low = (within).0;
      high = omega (arith, (within).1, r.lots);
    }

pub returns-in_err-h : goal.returns-in_err-h
returns-in_err-h c =
    let s = c.args.sheet.now in
    let grouping = c.args.grouping.now in
    let refusal = sheet-refused s grouping _ _ (read_refuses s _ _ c.in_err-h.ensures) in
    rw (passed_on_is c.from_residual.ensures.1)
    (ensured s grouping c.args.count c.args.lot c.args.value
    (grouping-refused s grouping c.args.count c.args.lot refusal) refl refl)

pub returns : goal.returns
returns c =
    let s : List ℕ = c.args.sheet.now in
    let grouping : List ℕ = c.args.grouping.now in
    let count : ℕ = c.args.count in
    let lot : ℕ = c.args.lot in
    let value : ℕ = c.args.value in
    -- Where the reader accepts, the sheet is accepted, with its counts.
    let accepted : ReadAs s c.in_ok-h.h.lots c.in_ok-h.h.conditions c.in_ok-h.h.records = read_accepts _ _ _ _ c.in_ok-h.ensures in
    let long : grouping_verdict s grouping ≡ Passes = all_pass s grouping accepted.accepted (omega (arith, accepted.lots, c.if-grouping-h.false)) in
    let tested : c.ill_lot.result ≡ ill_lot (lot_count s) lot = c.ill_lot.ensures ∙ ap (λ (n : ℕ). ill_lot n lot) accepted.lots in
    let passed : ill_lot (lot_count s) lot ≡ false = sym tested ∙ c.if-ill_lot.false in
    let made = c.reassign_lot.ensures in
    ensured s grouping count lot value (lot-passed s grouping count lot long passed) made.answer made.grouping
