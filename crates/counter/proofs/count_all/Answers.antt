-- `counter::count_all`: the conditions that the loop has passed are added up.
use mathlib.Core.Path.{◌≡◌, sym, ap, ◌∙◌}
use Prim.Native.Nat.{ℕ, suc, ◌+◌, ◌<◌}
use mathlib.Core.List.{List}
use native.Mathlib.Numerals.{add-one}
use native.Mathlib.Omega.{arith}
use Rattle.sheet.specs.Format.{condition_count}
use Rattle.sheet.specs.Conditions.{condition_at, terms_from}
use Rattle.sheet.proofs.Accepted.{Sound, sound}
use Rattle.sheet.proofs.ChainEnds.{head-on}
use Rattle.evaluator.specs.Numbers.{number_at}
use Rattle.reassignment.specs.Count.{unmet_one}
use Rattle.reassignment.proofs.Summing.{summing_next, summed, unmet_adds}
use Rattle.counter.proofs.count_all.Goals as goal

pub head_at-head-requires : goal.head_at-head-requires
head_at-head-requires c =
    let s : List ℕ = c.args.sheet.now in
    let facts : Sound s = sound s c.requires.sheet.accepted in
    -- The next condition is one of the sheet's.
    let below : c.loop-c.c < condition_count s = omega (arith, c.loop-c-test.true, c.requires.sheet.counted) in
    omega (arith, below, facts.header.whole)

pub unmet_one-count-requires : goal.unmet_one-count-requires
unmet_one-count-requires c =
    let s : List ℕ = c.args.sheet.now in
    -- The next condition is one of the sheet's.
    let below : c.loop-c.c < condition_count s = omega (arith, c.loop-c-test.true, c.requires.sheet.counted) in (
      c.requires,
      rw c.head_at-head.ensures (head-on s c.requires.sheet.accepted (c.loop-c.c + 1) (omega arith) (omega (arith, below))),
    )

pub loop-c-preserved : goal.loop-c-preserved
loop-c-preserved c =
    let s : List ℕ = c.args.sheet.now in
    let assigned : ℕ → ℕ = number_at c.args.numbers.now in
    -- The next condition is one of the sheet's.
    let below : c.loop-c.c < condition_count s = omega (arith, c.loop-c-test.true, c.requires.sheet.counted) in
    let answer : c.unmet_one-count.result ≡ unmet_one assigned (condition_at s (suc c.loop-c.c)) = c.unmet_one-count.ensures
    ∙ ap (λ (r : ℕ). unmet_one assigned (terms_from s r)) c.head_at-head.ensures
    ∙ ap (λ (n : ℕ). unmet_one assigned (condition_at s n)) (add-one c.loop-c.c) in
    rw (add-one c.loop-c.c) (summing_next (unmet_adds assigned) c.loop-c.invariant below answer)

pub returns : goal.returns
returns c =
    sym (summed (unmet_adds (number_at c.args.numbers.now)) c.loop-c.invariant (omega (arith, c.loop-c-test.false, c.requires.sheet.counted)))
