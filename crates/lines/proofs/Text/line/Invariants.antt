-- What is left of the line: the numbers from the next on, and its end.
use mathlib.Core.List.{map}
use lib.ListN.{drop}
use Rattle.lines.specs.Lines.{decimal, line}
use Rattle.lines.proofs.Fields.{after}
use Rattle.lines.proofs.Appending.{Left}
use Rattle.lines.proofs.Text.line.Given as goal

abbrev pub invariant-loop-x : goal.invariant-loop-x
invariant-loop-x l = Left l.fn.self (line l.word (map decimal l.numbers)) l.self (after (map decimal (drop l.x-index l.numbers)))
