-- `merge::merge_second`: the second sheet is refused, or both are accepted.
use Prim.Native.Nat.{max}
use mathlib.Core.Path.{◌≡◌, refl, sym, ap, ap₂, ◌∙◌}
use Rattle.std.specs.Prelude.{Err}
use Rattle.sheet.specs.Verdicts.{Refuses}
use Rattle.sheet.specs.Answers.{reading_answer}
use Rattle.sheet.proofs.Refusals.{passed_on_is, mapped-ok, mapped-err}
use Rattle.sheet.proofs.Readings.{read_accepts, read_refuses}
use Rattle.repeats.specs.Repeats.{has_terms}
use Rattle.merge.specs.declared.MergeRefusal.TheVariants.{Second}
use Rattle.merge.specs.Merge.{merged_lots}
use Rattle.merge.proofs.Answering.{which_second, second-refused}
use Rattle.merge.proofs.Entry.{equations}
use Rattle.merge.proofs.merge_second.Goals as goal

pub merge_both-requires : goal.merge_both-requires
merge_both-requires c =
    let a = read_accepts _ _ _ _ (ap reading_answer (sym (mapped-ok _ c.read.result c.map_err.ensures.cases c.in_ok-h.was)) ∙ c.read.ensures) in
    -- The larger of the two numbers of lots is the merged sheet's.
    let lots : c.max.result ≡ merged_lots c.args.first.now c.args.second.now = c.max.ensures ∙ ap₂ max c.requires.1 a.lots in
    (c.requires.0, record { accepted = a.accepted; counted = a.conditions }, lots)

pub returns-in_err-h : goal.returns-in_err-h
returns-in_err-h c =
    let ok = c.requires.0.accepted in
    let from = mapped-err _ c.read.result c.map_err.ensures.cases c.in_err-h.was in
    let refuses = read_refuses _ _ _ (ap reading_answer (sym from.1) ∙ c.read.ensures) in
    rw (passed_on_is c.from_residual.ensures.1, from.2)
    (equations _ _ _ (Refuses _ _) (second-refused has_terms _ _ _ ok _ _ refuses) (Err (Second from.0)) _ refl (sym (which_second _ _ ok _ _ refuses)) refl)

pub returns : goal.returns
returns c =
    c.merge_both.ensures
