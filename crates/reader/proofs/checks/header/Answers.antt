-- `reader::checks::header` meets its contract: at each return the tests that led there say what the five tests together come to.
use Prim.Native.Nat.{ℕ}
use mathlib.Core.Bool.{not}
use mathlib.Core.List.{List}
use mathlib.Core.Path.{◌≡◌, refl, sym, ◌∙◌}
use lib.Dec.{eqb}
use lib.ListN.{length}
use borrow.Author.Tests.{lt-ltb, le-ltb, eq-eqb, ne_eqb}
use Rattle.sheet.specs.Verdicts.{Passes}
use Rattle.sheet.specs.Format.{sheet_length}
use Rattle.sheet.specs.Checks.{or_else, refuses_if, first_refusal, header_checks}
use Rattle.sheet.specs.Inner.{header_at}
use Rattle.reader.proofs.Tests.{header_by_tests}
use Rattle.reader.proofs.checks.header.Goals as goal

pub returns-then-sheet-lt6-clause-verdict : goal.returns-then-sheet-lt6-clause-verdict
returns-then-sheet-lt6-clause-verdict c =
    let s : List ℕ = c.args.sheet.now in
    sym (header_by_tests s {h = header_at s} refl ∙ simp (lt-ltb _ _ c.if-sheet-lt6.true))

pub returns-then-h-gt128-clause-verdict : goal.returns-then-h-gt128-clause-verdict
returns-then-h-gt128-clause-verdict c =
    sym (header_by_tests c.args.sheet.now c.header_of-h.ensures
    ∙ simp (le-ltb _ _ c.if-sheet-lt6.false, lt-ltb _ _ c.if-h-gt128.true))

pub returns-then-h-gt256-clause-verdict : goal.returns-then-h-gt256-clause-verdict
returns-then-h-gt256-clause-verdict c =
    sym (header_by_tests c.args.sheet.now c.header_of-h.ensures
    ∙ simp (le-ltb _ _ c.if-sheet-lt6.false, le-ltb _ _ c.if-h-gt128.false, lt-ltb _ _ c.if-h-gt256.true))

pub returns-then-h-gt1024-clause-verdict : goal.returns-then-h-gt1024-clause-verdict
returns-then-h-gt1024-clause-verdict c =
    sym (header_by_tests c.args.sheet.now c.header_of-h.ensures
    ∙ simp (le-ltb _ _ c.if-sheet-lt6.false, le-ltb _ _ c.if-h-gt128.false, le-ltb _ _ c.if-h-gt256.false, lt-ltb _ _ c.if-h-gt1024.true))

pub returns-then-sheet-h-clause-verdict : goal.returns-then-sheet-h-clause-verdict
returns-then-sheet-h-clause-verdict c =
    let by_length : let size : ℕ = length c.args.sheet.now in first_refusal (header_checks c.args.sheet.now) ≡ or_else (refuses_if (not (eqb size (sheet_length c.header_of-h.result.conditions c.header_of-h.result.records))) 3 0) Passes = header_by_tests c.args.sheet.now c.header_of-h.ensures
    ∙ simp (le-ltb _ _ c.if-sheet-lt6.false, le-ltb _ _ c.if-h-gt128.false, le-ltb _ _ c.if-h-gt256.false, le-ltb _ _ c.if-h-gt1024.false) in
    sym (by_length ∙ simp (ne_eqb _ _ c.if-sheet-h.true))

pub returns-clause-verdict : goal.returns-clause-verdict
returns-clause-verdict c =
    let by_length : let size : ℕ = length c.args.sheet.now in first_refusal (header_checks c.args.sheet.now) ≡ or_else (refuses_if (not (eqb size (sheet_length c.header_of-h.result.conditions c.header_of-h.result.records))) 3 0) Passes = header_by_tests c.args.sheet.now c.header_of-h.ensures
    ∙ simp (le-ltb _ _ c.if-sheet-lt6.false, le-ltb _ _ c.if-h-gt128.false, le-ltb _ _ c.if-h-gt256.false, le-ltb _ _ c.if-h-gt1024.false) in
    sym (by_length ∙ simp (eq-eqb _ _ c.if-sheet-h.false))
