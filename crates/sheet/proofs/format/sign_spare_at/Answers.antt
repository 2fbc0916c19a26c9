-- `sheet::format::sign_spare_at` meets its contract: it reads the number where the definition says, by the header's own m.
use mathlib.Core.Path.{◌∙◌}
use Rattle.sheet.proofs.format.sign_spare_at.Goals as goal

pub returns : goal.returns
returns c =
    c.number_at.ensures ∙ rw (c.record_place-p.ensures, c.requires.counted)
