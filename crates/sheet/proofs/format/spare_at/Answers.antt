-- `sheet::format::spare_at` meets its contract: it reads the byte where the definition says, by the header's own m.
use Rattle.sheet.specs.Format.{spare_at}
use Rattle.sheet.proofs.format.spare_at.Goals as goal

pub returns : goal.returns
unfolding spare_at
returns c =
    rw (c.record_place-p.ensures, c.requires.counted)
