-- `search::search_limited`: the reader's refusal, the limit's, the grouping's, or the search of the accepted sheet.
use Prim.Native.Nat.{ℕ}
use mathlib.Core.Bool.{false}
use mathlib.Core.Path.{◌≡◌, refl, sym, ap, ◌∙◌}
use native.Mathlib.Omega.{arith}
use Rattle.std.specs.Prelude.{Err}
use Rattle.sheet.specs.Verdicts.{Refuses}
use Rattle.sheet.specs.declared.refusal.Refusal.TheVariants.{ShortGrouping, NoSuchLimit}
use Rattle.sheet.proofs.Refusals.{passed_on_is}
use Rattle.sheet.proofs.Readings.{read_accepts, read_refuses}
use Rattle.limit.specs.Meaning.{up_to, ill_limited, Admitted}
use Rattle.limit.proofs.Range.{limit_admitted}
use Rattle.outcome.proofs.Checked.{under_refused, under_short, under_all, limit-refused}
use Rattle.visit.specs.Limits.{pairs_room}
use Rattle.search.proofs.Entry.{refused-ends, ensured_under}
use Rattle.search.proofs.search_limited.Goals as goal

pub returns-in_err-h : goal.returns-in_err-h
returns-in_err-h c =
    let s = c.args.sheet.now in
    let grouping = c.args.grouping.now in
    let store = c.args.store.now in
    let limit = up_to c.args.limit in
    let r = c.in_err-h.field-0.0 in
    rw (passed_on_is c.from_residual.ensures.1)
    (ensured_under limit s grouping store (under_refused limit s grouping _ _ (read_refuses s _ _ c.in_err-h.ensures)) grouping store (Err r)
    (refused-ends limit s grouping store r))

-- The limit is refused,
pub returns-then-ill_limited : goal.returns-then-ill_limited
returns-then-ill_limited c =
    let s = c.args.sheet.now in
    let grouping = c.args.grouping.now in
    let store = c.args.store.now in
    let g = c.args.limit in
    let a = read_accepts s _ _ _ c.in_ok-h.ensures in
    ensured_under (up_to g) s grouping store (limit-refused g s grouping a.accepted (sym c.ill_limited.ensures ∙ c.if-ill_limited.true))
    grouping store (Err (NoSuchLimit g)) (refused-ends (up_to g) s grouping store (NoSuchLimit g))

-- or it is one that can be asked for.
pub returns-in_err-check_grouping : goal.returns-in_err-check_grouping
returns-in_err-check_grouping c =
    let s = c.args.sheet.now in
    let grouping = c.args.grouping.now in
    let store = c.args.store.now in
    let g = c.args.limit in
    let a = read_accepts s _ _ _ c.in_ok-h.ensures in
    let within : Admitted (up_to g) = limit_admitted _ (sym c.ill_limited.ensures ∙ c.if-ill_limited.false) in
    let r = ShortGrouping c.in_ok-h.h.lots in
    let (refusal, short) = c.in_err-check_grouping.ensures.short in
    rw (passed_on_is c.from_residual-in_err-check_grouping.ensures.1, refusal)
    (ensured_under (up_to g) s grouping store
    (under_short (up_to g) s grouping a.accepted within (omega (arith, a.lots, short)) ∙ ap (λ (n : ℕ). Refuses 8 n) (sym a.lots))
    grouping store (Err r) (refused-ends (up_to g) s grouping store r))

pub search_within-requires : goal.search_within-requires
unfolding pairs_room
search_within-requires c =
    let a = read_accepts _ _ _ _ c.in_ok-h.ensures in
    (record { accepted = a.accepted; counted = a.conditions }, a.lots, c.in_ok-check_grouping.ensures.long, refl, omega arith)

pub returns : goal.returns
returns c =
    let s = c.args.sheet.now in
    let grouping = c.args.grouping.now in
    let store = c.args.store.now in
    let g = c.args.limit in
    let a = read_accepts s _ _ _ c.in_ok-h.ensures in
    let fine : ill_limited g ≡ false = sym c.ill_limited.ensures ∙ c.if-ill_limited.false in
    let made = c.search_within in
    ensured_under (up_to g) s grouping store (under_all (up_to g) s grouping a.accepted (limit_admitted _ fine) (omega (arith, a.lots, c.in_ok-check_grouping.ensures.long)))
    made.new.grouping made.new.store made.result (rw a.lots at made.ensures)
