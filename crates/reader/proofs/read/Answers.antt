-- `reader::read` meets its contract: the checks stand in the table's order, and each is asked once those before it have passed; a refusal is handed on.
use mathlib.Core.Path.{sym, ◌∙◌}
use Rattle.sheet.specs.Inner.{HasHeader}
use Rattle.sheet.specs.Answers.{read_answer_with}
use Rattle.sheet.proofs.Refusals.{passed_on_is}
use Rattle.sheet.proofs.Verdicts.{or_else_end}
use Rattle.sheet.proofs.Accepted.{in_order, header-passed}
use Rattle.reader.proofs.Order.{after_header, after_heads, after_records, refuses_by}
use Rattle.reader.proofs.read.Goals as goal

pub returns-in_err-h : goal.returns-in_err-h
returns-in_err-h c =
    rw (passed_on_is c.from_residual.ensures.1) (refuses_by c.args.sheet.now _ (in_order c.args.sheet.now) c.in_err-h.ensures.verdict)

pub heads-requires : goal.heads-requires
heads-requires c =
    rw c.in_ok-h.ensures.header (header-passed c.args.sheet.now (sym c.in_ok-h.ensures.verdict))

pub returns-in_err-heads : goal.returns-in_err-heads
returns-in_err-heads c =
    rw (passed_on_is c.from_residual-in_err-heads.ensures.1) (refuses_by c.args.sheet.now _ (after_header c.args.sheet.now c.in_ok-h.ensures.verdict) c.in_err-heads.ensures)

pub records-requires : goal.records-requires
records-requires c =
    rw c.in_ok-h.ensures.header (header-passed c.args.sheet.now (sym c.in_ok-h.ensures.verdict))

pub returns-in_err-records : goal.returns-in_err-records
returns-in_err-records c =
    rw (passed_on_is c.from_residual-in_err-records.ensures.1)
    (refuses_by c.args.sheet.now _ (after_heads c.args.sheet.now c.in_ok-h.ensures.verdict c.in_ok-heads.ensures) c.in_err-records.ensures)

pub check-requires : goal.check-requires
check-requires c =
    let has : HasHeader c.args.sheet.now c.in_ok-h.h = rw c.in_ok-h.ensures.header (header-passed c.args.sheet.now (sym c.in_ok-h.ensures.verdict)) in
    (has, sym c.in_ok-heads.ensures, sym c.in_ok-records.ensures)

pub returns-in_err-check : goal.returns-in_err-check
returns-in_err-check c =
    let last = after_records c.args.sheet.now c.in_ok-h.ensures.verdict c.in_ok-heads.ensures c.in_ok-records.ensures in
    rw (passed_on_is c.from_residual-in_err-check.ensures.1) (refuses_by c.args.sheet.now _ (last ∙ sym (or_else_end _)) c.in_err-check.ensures)

pub returns : goal.returns
unfolding read_answer_with
returns c =
    let last = after_records c.args.sheet.now c.in_ok-h.ensures.verdict c.in_ok-heads.ensures c.in_ok-records.ensures in
    rw (last, ← c.in_ok-check.ensures, c.in_ok-h.ensures.header)
