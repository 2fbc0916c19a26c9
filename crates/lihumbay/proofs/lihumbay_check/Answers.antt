-- `lihumbay::lihumbay_check`: the numbers of the checker's answer.
use mathlib.Core.Path.{ap, ◌∙◌}
use Rattle.limit.specs.Meaning.{unlimited}
use Rattle.numbers.specs.Answers.{numbers_of}
use Rattle.lihumbay.proofs.Promised.{zero_passed, zero_means}
use Rattle.lihumbay.proofs.lihumbay_check.Goals as goal

pub returns : goal.returns
returns c =
    let start = c.args in
    let s = start.sheet.now in
    let list = start.list.now in record { answer = c.from.ensures ∙ ap numbers_of c.check.ensures.answer; passed = rw c.from.ensures (zero_passed unlimited s list c.check.result c.check.ensures.answer c.check.ensures.passed); meaning = rw c.from.ensures (zero_means unlimited s list _ c.check.result c.check.ensures.answer c.check.ensures.meaning) }
