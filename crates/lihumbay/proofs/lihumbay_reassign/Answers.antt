-- `lihumbay::lihumbay_reassign`: the numbers of the answer, and the grouping as the reassignment leaves it.
use mathlib.Core.Path.{ap, ◌∙◌}
use Rattle.counter.specs.Answers.{counting_answer}
use Rattle.numbers.specs.Answers.{numbers_of}
use Rattle.lihumbay.proofs.Promised.{zero_counted, right_accepted}
use Rattle.lihumbay.proofs.lihumbay_reassign.Goals as goal

pub returns : goal.returns
returns c =
    let args = c.args in
    let s = args.sheet.now in
    let grouping = args.grouping.now in
    let grouping' = c.reassign.new.grouping in
    let a = counting_answer c.reassign.result in record {
      answer = c.from.ensures ∙ ap numbers_of c.reassign.ensures.answer;
      grouping = c.reassign.ensures.grouping;
      counted = rw c.from.ensures (zero_counted s grouping args.count args.lot args.value grouping' a c.reassign.ensures.answer c.reassign.ensures.counted);
      right = rw c.from.ensures (right_accepted s grouping args.count args.lot args.value grouping' a c.reassign.ensures.counted c.reassign.ensures.right);
    }
