-- `sheet::format::header_of` meets its contract, field by field, by what `number_at` ensures.
use Rattle.sheet.proofs.format.header_of.Goals as goal

pub returns : goal.returns
returns c =
    rw (c.number_at.ensures, c.number_at-2.ensures, c.number_at-3.ensures)
