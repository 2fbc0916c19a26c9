-- `reader::checks::vacant_or_formed` meets its contract: a record that isn't well formed has to be vacant.
use mathlib.Core.Bool.{or-false}
use mathlib.Core.Path.{sym, ◌∙◌}
use Rattle.sheet.specs.Format.{vacant}
use Rattle.reader.proofs.checks.vacant_or_formed.Goals as goal

pub returns : goal.returns
returns c =
    let a = c.args in
    c.is_vacant.ensures ∙ sym (rw (sym c.well_formed-2.ensures ∙ c.if-well_formed.false) (or-false (vacant a.sheet.now a.r.0)))
