-- What is left of the line: the lots' bytes from the next on, and its end.
use mathlib.Core.List.{map}
use lib.ListN.{drop}
use Rattle.lines.specs.Lines.{decimal, met_line}
use Rattle.lines.proofs.Fields.{after}
use Rattle.lines.proofs.Appending.{Left}
use Rattle.lines.proofs.Text.met_line.Given as goal

abbrev pub invariant-loop-lot : goal.invariant-loop-lot
invariant-loop-lot l = Left l.fn.self (met_line l.grouping) l.self (after (map decimal (drop l.lot-index l.grouping)))
