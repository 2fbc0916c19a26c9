-- `search::search`: the reader's refusal, the grouping's, or the search of the accepted sheet.
use mathlib.Core.Path.{refl, sym, ap, ◌∙◌}
use Prim.Native.Nat.{ℕ}
use native.Mathlib.Omega.{arith}
use Rattle.std.specs.Prelude.{Err}
use Rattle.sheet.specs.Verdicts.{Refuses}
use Rattle.sheet.specs.declared.refusal.Refusal.TheVariants.{ShortGrouping}
use Rattle.sheet.proofs.Refusals.{passed_on_is}
use Rattle.sheet.proofs.Readings.{read_accepts, read_refuses}
use Rattle.limit.specs.Meaning.{unlimited}
use Rattle.limit.proofs.Range.{none_admitted}
use Rattle.outcome.proofs.Checked.{under_refused, under_short, under_all}
use Rattle.visit.specs.Limits.{pairs_room}
use Rattle.search.proofs.Entry.{refused-ends, ensured}
use Rattle.search.proofs.search.Goals as goal

pub returns-in_err-h : goal.returns-in_err-h
returns-in_err-h c =
    let s = c.args.sheet.now in
    let grouping = c.args.grouping.now in
    let store = c.args.store.now in
    let r = c.in_err-h.field-0.0 in
    rw (passed_on_is c.from_residual.ensures.1)
    (ensured s grouping store (under_refused unlimited s grouping _ _ (read_refuses s _ _ c.in_err-h.ensures)) grouping store (Err r)
    (refused-ends unlimited s grouping store r))

pub returns-in_err-check_grouping : goal.returns-in_err-check_grouping
returns-in_err-check_grouping c =
    let s = c.args.sheet.now in
    let grouping = c.args.grouping.now in
    let store = c.args.store.now in
    let a = read_accepts s _ _ _ c.in_ok-h.ensures in
    let r = ShortGrouping c.in_ok-h.h.lots in
    let (refusal, short) = c.in_err-check_grouping.ensures.short in
    rw (passed_on_is c.from_residual-in_err-check_grouping.ensures.1, refusal)
    (ensured s grouping store
    (under_short unlimited s grouping a.accepted none_admitted (omega (arith, a.lots, short)) ∙ ap (λ (n : ℕ). Refuses 8 n) (sym a.lots))
    grouping store (Err r) (refused-ends unlimited s grouping store r))

pub search_within-requires : goal.search_within-requires
unfolding pairs_room
search_within-requires c =
    let a = read_accepts _ _ _ _ c.in_ok-h.ensures in
    (record { accepted = a.accepted; counted = a.conditions }, a.lots, c.in_ok-check_grouping.ensures.long, refl, omega arith)

pub returns : goal.returns
returns c =
    let s = c.args.sheet.now in
    let grouping = c.args.grouping.now in
    let store = c.args.store.now in
    let a = read_accepts s _ _ _ c.in_ok-h.ensures in
    let made = c.search_within in
    ensured s grouping store (under_all unlimited s grouping a.accepted none_admitted (omega (arith, a.lots, c.in_ok-check_grouping.ensures.long)))
    made.new.grouping made.new.store made.result (rw a.lots at made.ensures)
