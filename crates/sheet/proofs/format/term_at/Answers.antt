-- `sheet::format::term_at` meets its contract, field by field, by what `record_place` and `number_at` ensure.
use Rattle.sheet.specs.Format.{sign_at, first_lot_at, second_lot_at, next_at}
use Rattle.sheet.proofs.format.term_at.Goals as goal

pub returns : goal.returns
unfolding sign_at first_lot_at second_lot_at next_at
returns c =
    rw (c.number_at.ensures, c.number_at-2.ensures, c.number_at-3.ensures)
    (rw (c.record_place-p.ensures, c.requires.counted))
