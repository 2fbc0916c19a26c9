-- `steps::split_step`: lots out of range, too many splits above, or the split on top.
use Prim.Native.Nat.{ℕ}
use mathlib.Core.Bool.{true}
use mathlib.Core.Path.{◌≡◌, sym, ap, ◌∙◌}
use native.Mathlib.Omega.{arith}
use Rattle.sheet.specs.Format.{lowest_lot, lot_count}
use Rattle.sheet.specs.Checks.{lot_in_range}
use Rattle.limit.specs.Scan.{limit_in}
use Rattle.path.specs.Paths.{path_of}
use Rattle.path.proofs.Splits.{path-length}
use Rattle.steps.proofs.Stepping.{too_deep, pushed}
use Rattle.steps.proofs.split_step.Goals as goal

-- A test on a lot by n is one by the sheet's lots.
by_sheet : (n lots lot : ℕ) → n ≡ lots → lot_in_range lowest_lot n lot ≡ true → lot_in_range lowest_lot lots lot ≡ true
by_sheet n lots lot e within = ap (λ (k : ℕ). lot_in_range lowest_lot k lot) (sym e) ∙ within

pub returns-then-most_splits-depth-clause-walk : goal.returns-then-most_splits-depth-clause-walk
returns-then-most_splits-depth-clause-walk c = λ s lots walk_rest rest.
    let split = c.args.split in
    too_deep (limit_in c.args.limit) s walk_rest rest split.number.0 (path_of c.args.path.now c.args.depth) split.a.0 split.b.0 split.next.0
    (by_sheet c.args.n (lot_count s) split.a.0 lots (sym c.in_lots.ensures ∙ c.if-not-in_lots.false))
    (by_sheet c.args.n (lot_count s) split.b.0 lots (sym c.in_lots-2.ensures ∙ c.if-not-in_lots-2.false))
    (rw (path-length c.args.path.now c.args.depth) (omega (arith, c.most_splits.ensures, c.if-most_splits-depth.true)))

pub returns-clause-walk : goal.returns-clause-walk
returns-clause-walk c = λ s lots walk_rest rest.
    let split = c.args.split in
    pushed (limit_in c.args.limit) s walk_rest rest split.number.0 (path_of c.args.path.now c.args.depth) split.a.0 split.b.0 split.next.0
    (by_sheet c.args.n (lot_count s) split.a.0 lots (sym c.in_lots.ensures ∙ c.if-not-in_lots.false))
    (by_sheet c.args.n (lot_count s) split.b.0 lots (sym c.in_lots-2.ensures ∙ c.if-not-in_lots-2.false))
    (rw (path-length c.args.path.now c.args.depth) (omega (arith, c.most_splits.ensures, c.if-most_splits-depth.false)))
    _ c.push.ensures.path
