-- `merge::merge`: the first sheet is refused, or the second decides.
use mathlib.Core.Path.{refl, sym, ap, ◌∙◌}
use Rattle.std.specs.Prelude.{Err}
use Rattle.sheet.specs.Verdicts.{Refuses}
use Rattle.sheet.specs.Answers.{reading_answer}
use Rattle.sheet.proofs.Refusals.{passed_on_is, mapped-ok, mapped-err}
use Rattle.sheet.proofs.Readings.{read_accepts, read_refuses}
use Rattle.repeats.specs.Repeats.{has_terms}
use Rattle.merge.specs.declared.MergeRefusal.TheVariants.{First}
use Rattle.merge.proofs.Answering.{which_first, first-refused}
use Rattle.merge.proofs.Entry.{equations, ensured}
use Rattle.merge.proofs.merge.Goals as goal

pub merge_second-requires : goal.merge_second-requires
merge_second-requires c =
    let a = read_accepts _ _ _ _ (ap reading_answer (sym (mapped-ok _ c.read.result c.map_err.ensures.cases c.in_ok-h.was)) ∙ c.read.ensures) in
    (record { accepted = a.accepted; counted = a.conditions }, a.lots)

pub returns-in_err-h : goal.returns-in_err-h
returns-in_err-h c =
    let from = mapped-err _ c.read.result c.map_err.ensures.cases c.in_err-h.was in
    let refuses = read_refuses _ _ _ (ap reading_answer (sym from.1) ∙ c.read.ensures) in
    rw (passed_on_is c.from_residual.ensures.1, from.2)
    (ensured _ _ _ (Err (First from.0)) _
    (equations _ _ _ (Refuses _ _) (first-refused has_terms _ _ _ _ _ refuses) (Err (First from.0)) _ refl (sym (which_first _ _ _ _ refuses)) refl))

pub returns : goal.returns
returns c =
    ensured _ _ _ c.merge_second.result _ c.merge_second.ensures
