-- `reader_cases::sheet_of`: a change takes a byte of the line at least.
use Rattle.std.proofs.Common.{length}
use Rattle.reader_cases.proofs.sheet_of.Given as goal

abbrev pub decreases-loop-letter : goal.decreases-loop-letter
decreases-loop-letter l = length l.line.rest.now
