-- `reader_cases::line::Text::number`: what is left grows no longer, and each digit takes a byte of it; one more digit fits.
use Rattle.std.proofs.Common.{◌≤◌, length}
use Rattle.reader_cases.proofs.line.Text.number.Given as goal

abbrev pub invariant-loop-byte : goal.invariant-loop-byte
invariant-loop-byte l = (length l.self.rest.now ≤ length l.fn.self.rest.now) × (l.value ≤ 65540)

abbrev pub decreases-loop-byte : goal.decreases-loop-byte
decreases-loop-byte l = length l.self.rest.now
