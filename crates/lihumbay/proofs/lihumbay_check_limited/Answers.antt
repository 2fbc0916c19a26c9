-- `lihumbay::lihumbay_check_limited`: the numbers of the checker's answer.
use mathlib.Core.Path.{ap, ◌∙◌}
use Rattle.limit.specs.Meaning.{up_to}
use Rattle.numbers.specs.Answers.{numbers_of}
use Rattle.lihumbay.proofs.Promised.{zero_passed, zero_means}
use Rattle.lihumbay.proofs.lihumbay_check_limited.Goals as goal

pub returns : goal.returns
returns c =
    let start = c.args in
    let s = start.sheet.now in
    let list = start.list.now in
    let limit = up_to start.limit in record { answer = c.from.ensures ∙ ap numbers_of c.check_limited.ensures.answer; passed = rw c.from.ensures (zero_passed limit s list c.check_limited.result c.check_limited.ensures.answer c.check_limited.ensures.passed); meaning = rw c.from.ensures (zero_means limit s list _ c.check_limited.result c.check_limited.ensures.answer c.check_limited.ensures.meaning) }
