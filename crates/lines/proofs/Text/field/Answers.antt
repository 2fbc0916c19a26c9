-- The space, and then the number.
use Rattle.lines.specs.Lines.{decimal}
use Rattle.lines.proofs.Appending.{start, room-left, then, last}
use Rattle.lines.proofs.Text.field.Goals as goal

pub decimal-requires : goal.decimal-requires
decimal-requires c = room-left (then (decimal c.args.x) c.word.ensures (start c.requires))

pub returns : goal.returns
returns c = last c.decimal.ensures (then (decimal c.args.x) c.word.ensures (start c.requires))
