-- `lihumbay::lihumbay_evaluate`: the numbers of the evaluator's answer.
use mathlib.Core.Path.{ap, ◌∙◌}
use Rattle.evaluator.specs.Answers.{evaluation_answer}
use Rattle.numbers.specs.Answers.{numbers_of}
use Rattle.lihumbay.proofs.Promised.{first_unmet}
use Rattle.lihumbay.proofs.lihumbay_evaluate.Goals as goal

pub returns : goal.returns
returns c =
    let start = c.args in record { answer = c.from.ensures ∙ ap numbers_of c.evaluate.ensures.answer; meaning = rw c.from.ensures (first_unmet start.sheet.now start.grouping.now (evaluation_answer c.evaluate.result) c.evaluate.ensures.answer c.evaluate.ensures.meaning) }
