-- `lihumbay::lihumbay_read`: the numbers of the reader's answer.
use mathlib.Core.Path.{ap, ◌∙◌}
use Rattle.numbers.specs.Answers.{numbers_of}
use Rattle.lihumbay.proofs.Promised.{zero_exactly}
use Rattle.lihumbay.proofs.lihumbay_read.Goals as goal

pub returns : goal.returns
returns c =
    record { answer = c.from.ensures ∙ ap numbers_of c.read.ensures; accepted = rw c.from.ensures (zero_exactly c.args.sheet.now c.read.result c.read.ensures) }
