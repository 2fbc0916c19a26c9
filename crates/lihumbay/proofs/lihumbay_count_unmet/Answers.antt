-- `lihumbay::lihumbay_count_unmet`: the numbers of the counting service's answer.
use mathlib.Core.Path.{ap, ◌∙◌}
use Rattle.counter.specs.Answers.{counting_answer}
use Rattle.numbers.specs.Answers.{numbers_of}
use Rattle.lihumbay.proofs.Promised.{unmet_counted}
use Rattle.lihumbay.proofs.lihumbay_count_unmet.Goals as goal

pub returns : goal.returns
returns c =
    let start = c.args in record { answer = c.from.ensures ∙ ap numbers_of c.count_unmet.ensures.answer; meaning = rw c.from.ensures (unmet_counted start.sheet.now start.grouping.now (counting_answer c.count_unmet.result) c.count_unmet.ensures.answer c.count_unmet.ensures.meaning) }
