-- `reassign::reassign_lot`: 22 refuses, and nothing is written; or it passes, and the lot's byte is.
use Prim.Native.Nat.{ℕ, ◌+◌, ◌-◌, ◌≤◌}
use mathlib.Core.Bool.{false}
use mathlib.Core.List.{List}
use mathlib.Core.Path.{◌≡◌, refl, sym, ap, ap₂, ◌∙◌}
use native.Mathlib.Omega.{arith}
use Rattle.sheet.specs.Verdicts.{Verdict}
use Rattle.sheet.specs.Format.{condition_count}
use Rattle.sheet.specs.Answers.{answered, answer_of}
use Rattle.sheet.proofs.Accepted.{sound}
use Rattle.equality.specs.Evaluator.{number_in}
use Rattle.reassignment.specs.Reassign.{ill_count, unmet_naming, with_value, new_count, written_if}
use Rattle.reassignment.proofs.Weighing.{named_most}
use Rattle.reassignment.proofs.Checking.{count-within, count-refused, count-passed}
use Rattle.reassign.specs.declared.Weight.{Weight}
use Rattle.reassign.specs.Weights.{weight_in}
use Rattle.reassign.proofs.reassign_lot.Goals as goal

pub returns-then-ill_count : goal.returns-then-ill_count
returns-then-ill_count c =
    let s : List ℕ = c.args.sheet.now in
    let grouping : List ℕ = c.args.grouping.now in
    let lot : ℕ = c.args.lot.0 in
    let weight : Weight = c.weigh_grouping-weight.result in
    let weighed : weight ≡ weight_in s grouping lot c.args.value = c.weigh_grouping-weight.ensures in
    let was : weight.before ≡ unmet_naming s grouping lot = ap (λ (w : Weight). w.before) weighed in
    -- The test is 22's.
    let tested : c.ill_count.result ≡ ill_count (condition_count s) (unmet_naming s grouping lot) c.args.count = c.ill_count.ensures ∙ ap₂ (λ (m before : ℕ). ill_count m before c.args.count) c.requires.sheet.counted was in
    rw (count-refused s grouping c.args.count lot (sym tested ∙ c.if-ill_count.true)) (record { answer = refl; grouping = refl })

pub overflow_add-result : goal.overflow_add-result
overflow_add-result c =
    let s : List ℕ = c.args.sheet.now in
    let grouping : List ℕ = c.args.grouping.now in
    let lot : ℕ = c.args.lot.0 in
    let weight : Weight = c.weigh_grouping-weight.result in
    let weighed : weight ≡ weight_in s grouping lot c.args.value = c.weigh_grouping-weight.ensures in
    let was : weight.before ≡ unmet_naming s grouping lot = ap (λ (w : Weight). w.before) weighed in
    let is : weight.after ≡ unmet_naming s (with_value grouping lot c.args.value) lot = ap (λ (w : Weight). w.after) weighed in
    -- The test is 22's.
    let tested : c.ill_count.result ≡ ill_count (condition_count s) (unmet_naming s grouping lot) c.args.count = c.ill_count.ensures ∙ ap₂ (λ (m before : ℕ). ill_count m before c.args.count) c.requires.sheet.counted was in
    let passed : ill_count (condition_count s) (unmet_naming s grouping lot) c.args.count ≡ false = sym tested ∙ c.if-ill_count.false in
    let within : (c.args.count ≤ condition_count s) × (weight.before ≤ c.args.count) = let (high, low) = count-within _ _ _ passed in (high, omega (arith, low, was)) in
    omega (
      arith,
      is,
      named_most s (number_in (with_value grouping lot c.args.value)) lot,
      (within).0,
      (sound s c.requires.sheet.accepted).header.conditions,
    )

pub returns : goal.returns
returns c =
    let s : List ℕ = c.args.sheet.now in
    let grouping : List ℕ = c.args.grouping.now in
    let lot : ℕ = c.args.lot.0 in
    let weight : Weight = c.weigh_grouping-weight.result in
    let weighed : weight ≡ weight_in s grouping lot c.args.value = c.weigh_grouping-weight.ensures in
    let was : weight.before ≡ unmet_naming s grouping lot = ap (λ (w : Weight). w.before) weighed in
    let is : weight.after ≡ unmet_naming s (with_value grouping lot c.args.value) lot = ap (λ (w : Weight). w.after) weighed in
    -- The test is 22's.
    let tested : c.ill_count.result ≡ ill_count (condition_count s) (unmet_naming s grouping lot) c.args.count = c.ill_count.ensures ∙ ap₂ (λ (m before : ℕ). ill_count m before c.args.count) c.requires.sheet.counted was in
    let passed : ill_count (condition_count s) (unmet_naming s grouping lot) c.args.count ≡ false = sym tested ∙ c.if-ill_count.false in
    let args = c.args in
    let passes = count-passed s grouping args.count lot passed in record {
      answer = ap₂ (λ (x y : ℕ). answered (args.count - x + y) 0 0) was is
          ∙ sym (ap (λ (v : Verdict). answer_of v (answered (new_count s grouping args.count lot args.value) 0 0)) passes);
      grouping = sym (ap (λ (v : Verdict). written_if v (with_value grouping lot args.value) grouping) passes);
    }
