-- `reader_cases::cases`: a case takes a byte of the text at least.
use Rattle.std.proofs.Common.{length}
use Rattle.reader_cases.proofs.cases.Given as goal

abbrev pub decreases-loop-text : goal.decreases-loop-text
decreases-loop-text g l = length l.text.rest.now
