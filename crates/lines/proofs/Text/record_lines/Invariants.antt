-- What is left: the lines of the records from the next on.
use Rattle.lines.specs.Lines.{record_lines}
use Rattle.lines.specs.Code.{first_records}
use Rattle.lines.proofs.Fields.{records_from}
use Rattle.lines.proofs.Appending.{Left}
use Rattle.lines.proofs.Text.record_lines.Given as goal

abbrev pub invariant-loop-i : goal.invariant-loop-i
invariant-loop-i l = Left l.fn.self (record_lines (first_records l.store l.count)) l.self (record_lines (records_from l.store l.count l.i))
