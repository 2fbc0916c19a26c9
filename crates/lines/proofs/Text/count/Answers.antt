-- The word, and then the number.
use mathlib.Core.List.{◌∷◌}
use Rattle.lines.specs.Lines.{decimal}
use Rattle.lines.proofs.Appending.{start, room-left, then, last}
use Rattle.lines.proofs.Text.count.Goals as goal

pub field-requires : goal.field-requires
field-requires c = rw c.from.ensures (room-left (then (32 ∷ decimal c.args.n) c.word.ensures (start c.requires)))

pub returns : goal.returns
returns c = last (rw c.from.ensures at c.field.ensures) (then (32 ∷ decimal c.args.n) c.word.ensures (start c.requires))
