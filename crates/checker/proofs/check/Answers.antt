-- `checker::check`: the reader's refusal, the length's, or the walk's verdict.
use mathlib.Core.List.{List}
use Prim.Native.Nat.{ℕ}
use mathlib.Core.Path.{sym, ◌∙◌}
use native.Mathlib.Omega.{arith}
use Rattle.std.specs.Prelude.{Err}
use Rattle.sheet.specs.declared.refusal.Refusal.TheVariants.{IllSized}
use Rattle.sheet.proofs.Refusals.{passed_on_is}
use Rattle.sheet.proofs.Readings.{read_accepts, read_refuses}
use Rattle.limit.specs.Meaning.{unlimited}
use Rattle.limit.proofs.Range.{none_admitted}
use Rattle.checker.proofs.Entry.{few-records, sheet-refused, size-refused, walk_decides, ensured_unlimited}
use Rattle.checker.proofs.check.Goals as goal

pub returns-in_err-counts : goal.returns-in_err-counts
returns-in_err-counts c =
    let s : List ℕ = c.args.sheet.now in
    let list : List ℕ = c.args.list.now in
    rw (passed_on_is c.from_residual.ensures.1)
    (ensured_unlimited s list (Err c.in_err-counts.field-0.0) (sheet-refused unlimited s list _ _ (read_refuses s _ _ c.in_err-counts.ensures)))

-- Where the reader accepts, the sheet is accepted, with its counts.
pub returns-then-ill_sized : goal.returns-then-ill_sized
returns-then-ill_sized c =
    let s : List ℕ = c.args.sheet.now in
    let list : List ℕ = c.args.list.now in
    let a = read_accepts s _ _ _ c.in_ok-counts.ensures in
    ensured_unlimited s list (Err IllSized) (size-refused unlimited s list a.accepted none_admitted (sym c.ill_sized.ensures ∙ c.if-ill_sized.true))

-- Where the list has a length that one can have, its walk decides.
pub check_list-requires : goal.check_list-requires
check_list-requires c =
    let a = read_accepts c.args.sheet.now _ _ _ c.in_ok-counts.ensures in (
      record { sheet = record { accepted = a.accepted; counted = a.conditions }; lots = a.lots },
      few-records c.args.list.now (sym c.ill_sized.ensures ∙ c.if-ill_sized.false),
      omega arith,
      omega arith,
      omega arith,
      omega arith,
    )

pub returns : goal.returns
returns c =
    let s : List ℕ = c.args.sheet.now in
    let list : List ℕ = c.args.list.now in
    let a = read_accepts s _ _ _ c.in_ok-counts.ensures in
    ensured_unlimited s list c.check_list.result
    (walk_decides unlimited s list a.accepted none_admitted (sym c.ill_sized.ensures ∙ c.if-ill_sized.false) ∙ sym c.check_list.ensures)
