-- `merge::merge_both`: 18 for the conditions of the result, 18 for its terms, 19, or the merged sheet.
use Prim.Native.Nat.{ℕ, ◌≤◌}
use mathlib.Core.Path.{refl, sym, ap, ◌∙◌}
use native.Mathlib.Omega.{arith}
use lib.ListN.{length}
use Rattle.sheet.specs.Verdicts.{Passes}
use Rattle.sheet.specs.Format.{most_records, sheet_length}
use Rattle.sheet.specs.Answers.{refused, answered}
use Rattle.writer.specs.Drafts.{Draft, with_conditions}
use Rattle.repeats.specs.Repeats.{has_terms}
use Rattle.repeats.proofs.Entries.{each_lent}
use Rattle.std.specs.Prelude.{Ok}
use Rattle.sheet.specs.declared.refusal.Refusal.TheVariants.{TooManyMergedConditions, TooManyMergedRecords, ShortForMerged}
use Rattle.merge.proofs.Counts.{few, short, needed, room-mine, room-others, counts_whole}
use Rattle.merge.proofs.Answering.{which_neither, many_conditions, many_terms, output_short, all_pass}
use Rattle.merge.proofs.Entry.{equations, both_refused}
use Rattle.merge.proofs.merge_both.Goals as goal

pub returns-then-conditions-gt256 : goal.returns-then-conditions-gt256
returns-then-conditions-gt256 c =
    both_refused _ _ _ c.requires.0.accepted c.requires.1.accepted TooManyMergedConditions
    (many_conditions has_terms _ _ _ c.requires.0.accepted c.requires.1.accepted
    (omega (arith, c.if-conditions-gt256.true, c.gather_both-both.ensures.conditions'))) refl

pub returns-then-terms-gt1024 : goal.returns-then-terms-gt1024
returns-then-terms-gt1024 c =
    let entered = c.gather_both-both.ensures in
    both_refused _ _ _ c.requires.0.accepted c.requires.1.accepted TooManyMergedRecords
    (many_terms has_terms _ _ _ c.requires.0.accepted c.requires.1.accepted
    (few entered (omega (arith, c.if-conditions-gt256.false))) (omega (arith, c.if-terms-gt1024.true, entered.terms))) refl

pub returns-then-out-needed : goal.returns-then-out-needed
returns-then-out-needed c =
    let entered = c.gather_both-both.ensures in
    -- The length that is computed is the one needed.
    let told = c.length_of-needed.ensures ∙ needed entered in
    both_refused _ _ _ c.requires.0.accepted c.requires.1.accepted (ShortForMerged c.length_of-needed.result)
    (output_short has_terms _ _ _ c.requires.0.accepted c.requires.1.accepted
    (few entered (omega (arith, c.if-conditions-gt256.false))) (short entered (omega (arith, c.if-terms-gt1024.false))) (omega (arith, told, c.if-out-needed.true)))
    (ap (refused 19) told)

pub add-half-requires : goal.add-half-requires
add-half-requires c =
    let entered = c.gather_both-both.ensures in
    let room = room-mine entered c.args.out.now _ (omega (arith, c.if-terms-gt1024.false)) (omega (arith, c.length_of-needed.ensures, c.if-out-needed.false)) in
    (c.requires.0, entered.mine.each, rw c.begin-begun.ensures room)

pub add-requires : goal.add-requires
add-requires c =
    let entered = c.gather_both-both.ensures in
    let room = room-others entered c.args.out.now _ (omega (arith, c.if-terms-gt1024.false)) (omega (arith, c.length_of-needed.ensures, c.if-out-needed.false)) in
    (c.requires.1, each_lent entered.others, rw (c.add-half.ensures, c.begin-begun.ensures) room)

pub returns : goal.returns
returns c =
    let entered = c.gather_both-both.ensures in
    let out = c.args.out.now in
    let ok = c.requires.0.accepted in
    let ok' = c.requires.1.accepted in
    let terms-few : c.gather_both-both.result.terms ≤ most_records = omega (arith, c.if-terms-gt1024.false) in
    let fits : sheet_length c.gather_both-both.result.upto c.gather_both-both.result.terms ≤ length out = omega (arith, c.length_of-needed.ensures, c.if-out-needed.false) in
    let told = c.length_of-needed.ensures ∙ needed entered in
    let stored = c.add.ensures ∙ ap (with_conditions _) (c.add-half.ensures ∙ ap (with_conditions _) c.begin-begun.ensures) in
    equations _ _ out Passes
    (all_pass has_terms _ _ out ok ok' (few entered (omega (arith, c.if-conditions-gt256.false))) (short entered terms-few) (omega (arith, needed entered, fits)))
    (Ok c.length_of-needed.result) _ (ap (λ (n : ℕ). answered n 0 0) told) (sym (which_neither _ _ ok ok'))
    (ap (λ (d : Draft). d.bytes) stored ∙ counts_whole entered out _ terms-few fits c.requires.2)
