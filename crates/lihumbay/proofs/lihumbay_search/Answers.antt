-- `lihumbay::lihumbay_search`: the numbers of the search's answer, and the two buffers as it leaves them.
use mathlib.Core.Path.{sym, ap, ◌∙◌}
use Rattle.limit.specs.Meaning.{unlimited}
use Rattle.outcome.specs.Outcome.{Outcome}
use Rattle.outcome.proofs.Checked.{unlimited-outcome}
use Rattle.search.specs.Answers.{search_answer}
use Rattle.search.proofs.Promised.{refused-first}
use Rattle.numbers.specs.Answers.{numbers_of}
use Rattle.lihumbay.proofs.Promised.{nine, one, one-meets, one_zero, two, two_whichever, two_refutes, bounded}
use Rattle.lihumbay.proofs.lihumbay_search.Goals as goal

pub returns : goal.returns
returns c =
    let begin = c.args in
    let s = begin.sheet.now in
    let a = search_answer c.search.result in
    let first = refused-first unlimited s begin.grouping.now begin.store.now a
    (c.search.ensures.answer ∙ ap (λ (o : Outcome). o.answer) (sym (unlimited-outcome s begin.grouping.now begin.store.now))) in record { answer = c.from.ensures ∙ ap numbers_of c.search.ensures.answer; grouping = c.search.ensures.grouping; store = c.search.ensures.store; full = rw c.from.ensures (nine s begin.grouping.now begin.store.now a c.search.ensures.full c.search.ensures.capacity); met = rw c.from.ensures (one s a first c.search.ensures.met); meets = rw c.from.ensures (one-meets s c.search.new.grouping a first c.search.ensures.meets); zero = rw c.from.ensures (one_zero s c.search.new.grouping a first c.search.ensures.zero); cannot = rw c.from.ensures (two s a first c.search.ensures.cannot); whichever = rw c.from.ensures (two_whichever s a first c.search.ensures.whichever); refutes = rw c.from.ensures (two_refutes s c.search.new.store a first c.search.ensures.refutes); count = rw c.from.ensures (bounded s a first c.search.ensures.count) }
