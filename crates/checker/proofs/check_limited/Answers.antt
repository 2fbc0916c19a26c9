-- `checker::check_limited`: the reader's refusal, the limit's, the length's, or the walk's verdict.
use Prim.Native.Nat.{ℕ}
use mathlib.Core.Bool.{false}
use mathlib.Core.List.{List}
use mathlib.Core.Path.{◌≡◌, sym, ◌∙◌}
use native.Mathlib.Omega.{arith}
use Rattle.std.specs.Prelude.{Err}
use Rattle.sheet.specs.declared.refusal.Refusal.TheVariants.{IllSized, NoSuchLimit}
use Rattle.sheet.proofs.Refusals.{passed_on_is}
use Rattle.sheet.proofs.Readings.{read_accepts, read_refuses}
use Rattle.limit.specs.Meaning.{up_to, ill_limited}
use Rattle.limit.proofs.Range.{limit_admitted}
use Rattle.checker.proofs.Entry.{few-records, sheet-refused, limit-refused, size-refused, walk_decides, ensured}
use Rattle.checker.proofs.check_limited.Goals as goal

pub returns-in_err-counts : goal.returns-in_err-counts
returns-in_err-counts c =
    let s : List ℕ = c.args.sheet.now in
    let list : List ℕ = c.args.list.now in
    let limit = up_to c.args.limit in
    rw (passed_on_is c.from_residual.ensures.1)
    (ensured limit s list (Err c.in_err-counts.field-0.0) (sheet-refused limit s list _ _ (read_refuses s _ _ c.in_err-counts.ensures)))

-- Where the reader accepts, the sheet is accepted, with its counts.
pub returns-then-ill_limited : goal.returns-then-ill_limited
returns-then-ill_limited c =
    let s : List ℕ = c.args.sheet.now in
    let list : List ℕ = c.args.list.now in
    let g : ℕ = c.args.limit in
    let a = read_accepts s _ _ _ c.in_ok-counts.ensures in
    ensured (up_to g) s list (Err (NoSuchLimit g)) (limit-refused g s list a.accepted (sym c.ill_limited.ensures ∙ c.if-ill_limited.true))

-- Where the limit is one that can be asked for;
pub returns-then-ill_sized : goal.returns-then-ill_sized
returns-then-ill_sized c =
    let s : List ℕ = c.args.sheet.now in
    let list : List ℕ = c.args.list.now in
    let g : ℕ = c.args.limit in
    let a = read_accepts s _ _ _ c.in_ok-counts.ensures in
    let admitted : ill_limited g ≡ false = sym c.ill_limited.ensures ∙ c.if-ill_limited.false in
    ensured (up_to g) s list (Err IllSized)
    (size-refused (up_to g) s list a.accepted (limit_admitted g admitted) (sym c.ill_sized.ensures ∙ c.if-ill_sized.true))

-- and where the list has a length that one can have.
pub check_list-requires : goal.check_list-requires
check_list-requires c =
    let a = read_accepts c.args.sheet.now _ _ _ c.in_ok-counts.ensures in (
      record { sheet = record { accepted = a.accepted; counted = a.conditions }; lots = a.lots },
      few-records c.args.list.now (sym c.ill_sized.ensures ∙ c.if-ill_sized.false),
      omega arith,
      omega arith,
      omega arith,
      omega arith,
    )

pub returns : goal.returns
returns c =
    let s : List ℕ = c.args.sheet.now in
    let list : List ℕ = c.args.list.now in
    let g : ℕ = c.args.limit in
    let a = read_accepts s _ _ _ c.in_ok-counts.ensures in
    let admitted : ill_limited g ≡ false = sym c.ill_limited.ensures ∙ c.if-ill_limited.false in
    ensured (up_to g) s list c.check_list.result
    (walk_decides (up_to g) s list a.accepted (limit_admitted g admitted) (sym c.ill_sized.ensures ∙ c.if-ill_sized.false) ∙ sym c.check_list.ensures)
