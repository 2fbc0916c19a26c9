-- `repack::repack`: the reader's refusal, the output's, or the packed sheet.
use Prim.Native.Nat.{ℕ, ◌≤◌}
use mathlib.Core.Path.{refl, sym, ap, ◌∙◌}
use native.Mathlib.Omega.{arith}
use Rattle.sheet.specs.Verdicts.{Passes, Refuses}
use lib.ListN.{length}
use Rattle.sheet.specs.Format.{sheet_length}
use Rattle.sheet.specs.Conditions.{conditions}
use Rattle.sheet.specs.Answers.{refused, answered, reading_answer}
use Rattle.sheet.specs.declared.refusal.Refusal.TheVariants.{ShortForPacked}
use Rattle.sheet.proofs.Refusals.{passed_on_is}
use Rattle.sheet.proofs.Readings.{ReadAs, read_accepts, read_refuses}
use Rattle.std.specs.Prelude.{Ok, Err}
use Rattle.writer.specs.Drafts.{Draft, with_conditions}
use Rattle.repack.specs.Repack.{repacked_length}
use Rattle.repack.proofs.Counts.{needed, counts-room, counts_whole}
use Rattle.repack.proofs.Answering.{sheet-refused, output_short, all_pass}
use Rattle.repack.proofs.Entry.{ensured}
use Rattle.repack.proofs.repack.Goals as goal

pub count_terms-terms-requires : goal.count_terms-terms-requires
count_terms-terms-requires c =
    let accepted : ReadAs c.args.sheet.now c.in_ok-h.h.lots c.in_ok-h.h.conditions c.in_ok-h.h.records = read_accepts _ _ _ _ c.in_ok-h.ensures in
    let a = accepted in
    (record { accepted = a.accepted; counted = a.conditions }, a.records)

pub returns-then-out-needed : goal.returns-then-out-needed
returns-then-out-needed c =
    let accepted : ReadAs c.args.sheet.now c.in_ok-h.h.lots c.in_ok-h.h.conditions c.in_ok-h.h.records = read_accepts _ _ _ _ c.in_ok-h.ensures in
    let a = accepted in
    let s = c.args.sheet.now in
    let out = c.args.out.now in
    let length = c.length_of-needed.ensures ∙ needed a c.count_terms-terms.ensures in
    ensured s out (Refuses 16 (repacked_length s)) (output_short s out a.accepted (omega (arith, length, c.if-out-needed.true)))
    (Err (ShortForPacked c.length_of-needed.result)) _ (ap (refused 16) length) refl

pub begin-w-requires : goal.begin-w-requires
begin-w-requires c =
    -- Past the test there is room.
    let fits : sheet_length c.in_ok-h.h.conditions c.count_terms-terms.result ≤ length c.args.out.now = omega (arith, c.length_of-needed.ensures, c.if-out-needed.false) in
    omega (arith, fits)

pub add_conditions-requires : goal.add_conditions-requires
add_conditions-requires c =
    let accepted : ReadAs c.args.sheet.now c.in_ok-h.h.lots c.in_ok-h.h.conditions c.in_ok-h.h.records = read_accepts _ _ _ _ c.in_ok-h.ensures in
    -- Past the test there is room.
    let fits : sheet_length c.in_ok-h.h.conditions c.count_terms-terms.result ≤ length c.args.out.now = omega (arith, c.length_of-needed.ensures, c.if-out-needed.false) in
    let a = accepted in
    let room = counts-room a c.count_terms-terms.ensures c.args.out.now fits in
    (record { accepted = a.accepted; counted = a.conditions }, rw c.begin-w.ensures (room _))

pub returns-in_err-h : goal.returns-in_err-h
returns-in_err-h c =
    let s = c.args.sheet.now in
    let refuses = read_refuses s _ _ c.in_err-h.ensures in
    rw (passed_on_is c.from_residual.ensures.1)
    (ensured s c.args.out.now (Refuses _ _) (sheet-refused s c.args.out.now _ _ refuses) (Err c.in_err-h.field-0.0) _ refl refl)

pub returns : goal.returns
returns c =
    let accepted : ReadAs c.args.sheet.now c.in_ok-h.h.lots c.in_ok-h.h.conditions c.in_ok-h.h.records = read_accepts _ _ _ _ c.in_ok-h.ensures in
    -- Past the test there is room.
    let fits : sheet_length c.in_ok-h.h.conditions c.count_terms-terms.result ≤ length c.args.out.now = omega (arith, c.length_of-needed.ensures, c.if-out-needed.false) in
    let a = accepted in
    let s = c.args.sheet.now in
    let out = c.args.out.now in
    let length = c.length_of-needed.ensures ∙ needed a c.count_terms-terms.ensures in
    let stored = ap (λ (d : Draft). d.bytes) (c.add_conditions.ensures ∙ ap (with_conditions (conditions s)) c.begin-w.ensures) in
    ensured s out Passes (all_pass s out a.accepted (omega (arith, needed a c.count_terms-terms.ensures, fits)))
    (Ok c.length_of-needed.result) _ (ap (λ (n : ℕ). answered n 0 0) length) (stored ∙ counts_whole a c.count_terms-terms.ensures out fits)
