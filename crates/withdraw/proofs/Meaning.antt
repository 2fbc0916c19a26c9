-- What a withdrawal means: an assignment meets the sheet afterwards exactly when it meets the other conditions.
use Prim.Native.Nat.{ℕ, suc, ◌+◌, ◌-◌, ◌≤◌, ◌<◌}
use mathlib.Core.Bool.{Bool, true, false}
use mathlib.Core.List.{List, []}
use mathlib.Core.Logic.{◌↔◌}
use mathlib.Core.Path.{◌≡◌, refl, sym, ap, subst, ◌∙◌}
use native.Mathlib.Omega.{arith}
use lib.Dec.{eqb}
use lib.ListN.{get_or}
use borrow.Author.Tests.{eqb-true, eqb-false}
use Rattle.buffers.proofs.Lists.{all_nth}
use Rattle.sheet.specs.Format.{condition_count}
use Rattle.sheet.specs.Checks.{Accepted}
use Rattle.sheet.specs.Conditions.{condition_at, conditions}
use Rattle.sheet.proofs.Ranges.{all_along}
use Rattle.sheet.proofs.Conditions.{conditions-length, conditions_at}
use Rattle.equality.specs.Meaning.{MeetsCondition, Meets}
use Rattle.equality.proofs.Withdrawn.{withdrawn-met}
use Rattle.withdraw.specs.Withdraw.{withdraw}
use Rattle.withdraw.specs.Others.{MeetsOthers}
use Rattle.withdraw.proofs.Withdraw.{condition-count, same-condition, head_zero}

module _ (s : List ℕ) (ok : Accepted s) (c : ℕ) (low : 1 ≤ c) (high : c ≤ condition_count s) {A : Type 0} (f : ℕ → A) where
  others-met : Meets f (withdraw s c) → MeetsOthers f s c
  others-met meets i least most another =
      let t : List ℕ = withdraw s c in
      let counted = condition-count s ok c low high in
      let number : suc (i - 1) ≡ i = omega arith in
      let here : MeetsCondition f (get_or (conditions t) (i - 1) []) =
      all_nth (MeetsCondition f) (conditions t) [] meets (i - 1) (omega (arith, conditions-length t, counted)) in
      subst (MeetsCondition f)
      (conditions_at t (i - 1) (omega (arith, counted)) ∙ ap (condition_at t) number ∙ same-condition s ok c low high i least most another)
      here

  met-others : MeetsOthers f s c → Meets f (withdraw s c)
  unfolding conditions
  met-others others = all_along (condition_at t) (MeetsCondition f) (condition_count t) 1 (λ i least most. go i least most (eqb i c) refl)
    where
      t : List ℕ
      t = withdraw s c

      go : (i : ℕ) → 1 ≤ i → i < 1 + condition_count t → (b : Bool) → eqb i c ≡ b → MeetsCondition f (condition_at t i)
      go i least most true e =
          subst (λ (j : ℕ). MeetsCondition f (condition_at t j)) (sym (eqb-true i c e)) (withdrawn-met t c (head_zero s ok c low high) f)
      go i least most false e =
          let within : i ≤ condition_count s = omega (arith, condition-count s ok c low high) in
          subst (MeetsCondition f) (sym (same-condition s ok c low high i least within (eqb-false i c e))) (others i least within (eqb-false i c e))

  pub withdraw_meaning : Meets f (withdraw s c) ↔ MeetsOthers f s c
  withdraw_meaning = (others-met, met-others)

  -- So nobody's grouping is lost by a withdrawal.
  pub withdraw-keeps : Meets f s → Meets f (withdraw s c)
  withdraw-keeps meets =
      met-others (λ i least most another.
      let number : suc (i - 1) ≡ i = omega arith in
      let here : MeetsCondition f (get_or (conditions s) (i - 1) []) =
      all_nth (MeetsCondition f) (conditions s) [] meets (i - 1) (omega (arith, conditions-length s)) in
      subst (MeetsCondition f) (conditions_at s (i - 1) (omega arith) ∙ ap (condition_at s) number) here)
