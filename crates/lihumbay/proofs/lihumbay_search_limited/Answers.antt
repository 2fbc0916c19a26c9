-- `lihumbay::lihumbay_search_limited`: the numbers of the search's answer, and the two buffers as it leaves them.
use mathlib.Core.Path.{ap, ◌∙◌}
use Rattle.limit.specs.Meaning.{up_to}
use Rattle.search.specs.Answers.{search_answer}
use Rattle.search.proofs.Promised.{refused-first}
use Rattle.numbers.specs.Answers.{numbers_of}
use Rattle.lihumbay.proofs.Promised.{nine_under, one_under, one_meets_under, one_zero_under, two_under, two_whichever_under, two_refutes_under}
use Rattle.lihumbay.proofs.lihumbay_search_limited.Goals as goal

pub returns : goal.returns
returns c =
    let begin = c.args in
    let s = begin.sheet.now in
    let limit = up_to begin.limit in
    let a = search_answer c.search_limited.result in
    let first = refused-first limit s begin.grouping.now begin.store.now a c.search_limited.ensures.answer in record { answer = c.from.ensures ∙ ap numbers_of c.search_limited.ensures.answer; grouping = c.search_limited.ensures.grouping; store = c.search_limited.ensures.store; full = rw c.from.ensures (nine_under limit s begin.grouping.now begin.store.now a c.search_limited.ensures.full c.search_limited.ensures.capacity); met = rw c.from.ensures (one_under limit s a first c.search_limited.ensures.met); meets = rw c.from.ensures (one_meets_under limit s c.search_limited.new.grouping a first c.search_limited.ensures.meets); zero = rw c.from.ensures (one_zero_under limit s c.search_limited.new.grouping a first c.search_limited.ensures.zero); cannot = rw c.from.ensures (two_under limit s a first c.search_limited.ensures.cannot); whichever = rw c.from.ensures (two_whichever_under limit s a first c.search_limited.ensures.whichever); refutes = rw c.from.ensures (two_refutes_under limit s c.search_limited.new.store a first c.search_limited.ensures.refutes) }
