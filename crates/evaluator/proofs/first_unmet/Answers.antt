-- `evaluator::first_unmet`: the conditions that the loop has passed are met.
use mathlib.Core.Path.{◌≡◌, sym, ap, ◌∙◌}
use Prim.Native.Nat.{ℕ, suc, ◌+◌, ◌<◌}
use mathlib.Core.List.{List}
use native.Mathlib.Numerals.{add-one}
use native.Mathlib.Omega.{arith}
use Rattle.sheet.specs.Format.{condition_count}
use Rattle.sheet.specs.Conditions.{condition_at, terms_from}
use Rattle.sheet.proofs.Accepted.{Sound, sound}
use Rattle.sheet.proofs.ChainEnds.{head-on}
use Rattle.sheet.proofs.Scanning.{found_here, scanning_next, none_found}
use Rattle.equality.specs.Meaning.{meets_condition}
use Rattle.std.specs.Prelude.{Some}
use Rattle.evaluator.specs.Answers.{unmet_or}
use Rattle.evaluator.specs.Numbers.{number_at}
use Rattle.evaluator.proofs.Scanning.{lowest_goes}
use Rattle.evaluator.proofs.first_unmet.Goals as goal

pub head_at-head-requires : goal.head_at-head-requires
head_at-head-requires c =
    let s : List ℕ = c.args.sheet.now in
    let facts : Sound s = sound s c.requires.sheet.accepted in
    let below : c.loop-c.c < condition_count s = omega (arith, c.loop-c-test.true, c.requires.sheet.counted) in
    omega (arith, below, facts.header.whole)

pub is_met-requires : goal.is_met-requires
is_met-requires c =
    let s : List ℕ = c.args.sheet.now in
    let below : c.loop-c.c < condition_count s = omega (arith, c.loop-c-test.true, c.requires.sheet.counted) in (
      c.requires,
      rw c.head_at-head.ensures (head-on s c.requires.sheet.accepted (c.loop-c.c + 1) (omega arith) (omega (arith, below))),
    )

pub returns-then-not-is_met : goal.returns-then-not-is_met
returns-then-not-is_met c =
    let s : List ℕ = c.args.sheet.now in
    let assigned : ℕ → ℕ = number_at c.args.numbers.now in
    let below : c.loop-c.c < condition_count s = omega (arith, c.loop-c-test.true, c.requires.sheet.counted) in
    -- What `is_met` answers is whether the next condition is met.
    let answer : c.is_met.result ≡ meets_condition assigned (condition_at s (suc c.loop-c.c)) = c.is_met.ensures
    ∙ ap (λ (r : ℕ). meets_condition assigned (terms_from s r)) c.head_at-head.ensures
    ∙ ap (λ (n : ℕ). meets_condition assigned (condition_at s n)) (add-one c.loop-c.c) in
    let lowest = found_here (lowest_goes assigned) c.loop-c.invariant below (sym answer ∙ c.if-not-is_met.true) in
    ap (λ (n : ℕ). Some (record { 0 = n })) (add-one c.loop-c.c) ∙ ap unmet_or (sym lowest)

pub loop-c-preserved : goal.loop-c-preserved
loop-c-preserved c =
    let s : List ℕ = c.args.sheet.now in
    let assigned : ℕ → ℕ = number_at c.args.numbers.now in
    let below : c.loop-c.c < condition_count s = omega (arith, c.loop-c-test.true, c.requires.sheet.counted) in
    let answer : c.is_met.result ≡ meets_condition assigned (condition_at s (suc c.loop-c.c)) = c.is_met.ensures
    ∙ ap (λ (r : ℕ). meets_condition assigned (terms_from s r)) c.head_at-head.ensures
    ∙ ap (λ (n : ℕ). meets_condition assigned (condition_at s n)) (add-one c.loop-c.c) in
    rw (add-one c.loop-c.c)
    (scanning_next (lowest_goes assigned) c.loop-c.invariant below (sym answer ∙ c.if-not-is_met.false))

pub returns : goal.returns
returns c =
    rw (none_found (lowest_goes (number_at c.args.numbers.now)) c.loop-c.invariant (omega (arith, c.loop-c-test.false, c.requires.sheet.counted)))
