use mathlib.Core.Path.{◌≡◌, ap, ◌∙◌}
use Prim.Native.Nat.{ℕ, suc, ◌+◌, ◌≤◌, ◌<◌}
use mathlib.Core.List.{List}
use native.Mathlib.Numerals.{add-one}
use native.Mathlib.Omega.{arith}
use Rattle.sheet.specs.Format.{condition_count}
use Rattle.sheet.specs.Conditions.{Term, condition_at, terms_from}
use Rattle.sheet.proofs.Accepted.{Sound, sound}
use Rattle.sheet.proofs.ChainEnds.{head-on}
use Rattle.evaluator.specs.Numbers.{number_at}
use Rattle.reassignment.proofs.Summing.{summing_next, summed, naming_adds}
use Rattle.reassign.specs.declared.Weight.{Weight}
use Rattle.reassign.specs.Weights.{unmet_one_naming, weight_of}
use Rattle.reassign.proofs.weigh.Goals as goal

pub head_at-head-requires : goal.head_at-head-requires
head_at-head-requires c =
    let s : List ℕ = c.args.sheet.now in
    let facts : Sound s = sound s c.requires.0.sheet.accepted in
    -- The next condition is one of the sheet's.
    let below : c.loop-c.c < condition_count s = omega (arith, c.loop-c-test.true, c.requires.0.sheet.counted) in
    omega (arith, below, facts.header.whole)

pub weigh_one-one-requires : goal.weigh_one-one-requires
weigh_one-one-requires c =
    let s : List ℕ = c.args.sheet.now in
    -- The next condition is one of the sheet's.
    let below : c.loop-c.c < condition_count s = omega (arith, c.loop-c-test.true, c.requires.0.sheet.counted) in (
      c.requires.0,
      c.requires.1,
      rw c.head_at-head.ensures (head-on s c.requires.0.sheet.accepted (c.loop-c.c + 1) (omega arith) (omega (arith, below))),
    )

pub loop-c-preserved : goal.loop-c-preserved
loop-c-preserved c =
    let s : List ℕ = c.args.sheet.now in
    -- The next condition is one of the sheet's.
    let below : c.loop-c.c < condition_count s = omega (arith, c.loop-c-test.true, c.requires.0.sheet.counted) in
    let here : List Term = condition_at s (suc c.loop-c.c) in
    let lot : ℕ = c.args.lot.0 in
    let was_assigned : ℕ → ℕ = number_at c.args.before.now in
    let is_assigned : ℕ → ℕ = number_at c.args.after.now in
    let answer : c.weigh_one-one.result ≡ weight_of was_assigned is_assigned lot here = c.weigh_one-one.ensures
    ∙ ap (λ (r : ℕ). weight_of was_assigned is_assigned lot (terms_from s r)) c.head_at-head.ensures
    ∙ ap (λ (n : ℕ). weight_of was_assigned is_assigned lot (condition_at s n)) (add-one c.loop-c.c) in
    let answer_was : c.weigh_one-one.result.before ≡ unmet_one_naming was_assigned lot here = ap (λ (w : Weight). w.before) answer in
    let answer_is : c.weigh_one-one.result.after ≡ unmet_one_naming is_assigned lot here = ap (λ (w : Weight). w.after) answer in
    rw (add-one c.loop-c.c) (
      summing_next (naming_adds was_assigned lot) c.loop-c.invariant.0 below (answer_was),
      summing_next (naming_adds is_assigned lot) c.loop-c.invariant.1 below (answer_is),
    )

pub returns : goal.returns
returns c =
    let inv = c.loop-c.invariant in
    let lot' = c.args.lot.0 in
    let all : condition_count c.args.sheet.now ≤ c.loop-c.c = omega (arith, c.loop-c-test.false, c.requires.0.sheet.counted) in
    rw (summed (naming_adds (number_at c.args.before.now) lot') inv.0 all, summed (naming_adds (number_at c.args.after.now) lot') inv.1 all)
