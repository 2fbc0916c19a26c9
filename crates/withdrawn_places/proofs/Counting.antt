-- In an accepted sheet the withdrawn conditions are those with no term.
use Prim.Native.Nat.{ℕ, zero, suc, ◌+◌, ◌≤◌}
use mathlib.Core.Bool.{Bool, true, false, cond}
use mathlib.Core.List.{List, [], ◌∷◌, ◌++◌, map}
use mathlib.Core.Path.{◌≡◌, refl, sym, ap, ◌∙◌}
use native.Mathlib.Omega.{arith}
use borrow.Author.Tests.{eqb-true, eqb-false}
use lib.Dec.{eqb}
use lib.ListN.{length}
use Rattle.sheet.specs.Format.{condition_count, head_at}
use Rattle.sheet.specs.Checks.{Accepted}
use Rattle.sheet.specs.Conditions.{Term, count_up, condition_at, conditions}
use Rattle.sheet.proofs.Conditions.{withdrawn-empty, empty-withdrawn}
use Rattle.withdrawn_places.specs.Changes.{withdrawn_from, withdrawn_count}
use Rattle.withdrawn_places.proofs.Beside.{empty_count}

-- One condition more.
count_next : (ts : List Term) (tss : List (List Term)) (b : Bool) → (b ≡ true → ts ≡ []) → (b ≡ false → ts ≡ [] → ⊥)
    → empty_count (ts ∷ tss) ≡ cond b 1 0 + empty_count tss
count_next [] tss true none some = omega arith
count_next [] tss false none some = absurd (some refl refl)
count_next (t ∷ ts) tss true none some = let e = ap length (none refl) in absurd (omega arith)
count_next (t ∷ ts) tss false none some = omega arith

pub count-append : (tss uss : List (List Term)) → empty_count (tss ++ uss) ≡ empty_count tss + empty_count uss
count-append [] uss = omega arith
count-append ([] ∷ tss) uss = omega (arith, count-append tss uss)
count-append ((t ∷ ts) ∷ tss) uss = count-append tss uss

module _ (s : List ℕ) (ok : Accepted s) where
  count_along : (count c : ℕ) → 1 ≤ c → c + count ≤ suc (condition_count s) → withdrawn_from s count c ≡ empty_count (map (condition_at s) (count_up count c))
  unfolding withdrawn_from count_up
  count_along zero c low high = refl
  count_along (suc count) c low high =
      let rest = map (condition_at s) (count_up count (suc c)) in
      let one = count_next (condition_at s c) rest (eqb (head_at s c) 0) (λ e. withdrawn-empty s c (eqb-true (head_at s c) 0 e))
      (λ e none. eqb-false (head_at s c) 0 e (empty-withdrawn s ok c low (omega arith) none)) in
      ap (λ (n : ℕ). cond (eqb (head_at s c) 0) 1 0 + n) (count_along count (suc c) (omega arith) (omega arith)) ∙ sym one

  pub withdrawn-count : withdrawn_count s ≡ empty_count (conditions s)
  unfolding withdrawn_count conditions
  withdrawn-count = count_along (condition_count s) 1 (omega arith) (omega arith)
