-- Lists and values along a range of which one is changed, and chains that a change has not touched.
use Prim.Native.Nat.{ℕ, zero, suc, ◌+◌, ◌-◌, ◌≤◌, ◌<◌}
use mathlib.Core.Bool.{Bool, true, false}
use mathlib.Core.List.{List, [], ◌∷◌, ◌++◌, map, flatten}
use mathlib.Core.Path.{◌≡◌, refl, sym, ap, ap₂, ◌∙◌}
use native.Mathlib.Omega.{arith}
use lib.Dec.{eqb}
use lib.ListN.{set}
use borrow.Author.Tests.{eqb-true, eqb-false, eq-eqb}
use Rattle.sheet.specs.Format.{next_at}
use Rattle.sheet.specs.Conditions.{chain, count_up}
use Rattle.sheet.proofs.Ranges.{each_along, map_agrees}
use Rattle.sheet.proofs.Times.{times, times_append}

-- ---- along a range

module _ (f : ℕ → List ℕ) (x : ℕ) where
  -- What stands in two of the lists stands in all of them together at least as often as in both.
  pub two_along : (n from c i : ℕ) → from ≤ c → c < from + n → from ≤ i → i < from + n → (c ≡ i → ⊥)
      → times x (f c) + times x (f i) ≤ times x (flatten (map f (count_up n from)))
  unfolding count_up flatten
  two_along zero from c i lc hc li hi differ = absurd (omega arith)
  two_along (suc n) from c i lc hc li hi differ =
      go (eqb c from) refl (eqb i from) refl
      (λ l. each_along f x n (suc from) c l (omega arith)) (λ l. each_along f x n (suc from) i l (omega arith))
      (λ l m. two_along n (suc from) c i l (omega arith) m (omega arith) differ)
    where
      rest : List ℕ
      rest = flatten (map f (count_up n (suc from)))

      go : (a : Bool) → eqb c from ≡ a → (b : Bool) → eqb i from ≡ b
          → (suc from ≤ c → times x (f c) ≤ times x rest) → (suc from ≤ i → times x (f i) ≤ times x rest)
          → (suc from ≤ c → suc from ≤ i → times x (f c) + times x (f i) ≤ times x rest)
          → times x (f c) + times x (f i) ≤ times x (f from ++ rest)
      go true p true q one other both = absurd (differ (eqb-true c from p ∙ sym (eqb-true i from q)))
      go true p false q one other both =
          rw (eqb-true c from p) (omega (arith, times_append x (f from) rest, other (omega (arith, eqb-false i from q))))
      go false p true q one other both =
          rw (eqb-true i from q) (omega (arith, times_append x (f from) rest, one (omega (arith, eqb-false c from p))))
      go false p false q one other both =
          omega (arith, times_append x (f from) rest, both (omega (arith, eqb-false c from p)) (omega (arith, eqb-false i from q)))

  -- Where each of other lists has it no more often, all together have it no more often.
  pub fewer_along : (g : ℕ → List ℕ) (n from : ℕ) → ((i : ℕ) → from ≤ i → i < from + n → times x (g i) ≤ times x (f i))
      → times x (flatten (map g (count_up n from))) ≤ times x (flatten (map f (count_up n from)))
  unfolding count_up flatten
  fewer_along g zero from each = omega arith
  fewer_along g (suc n) from each =
      let others = fewer_along g n (suc from) (λ i low high. each i (omega arith) (omega arith)) in
      omega (
        arith,
        each from (omega arith) (omega arith),
        others,
        times_append x (g from) (flatten (map g (count_up n (suc from)))),
        times_append x (f from) (flatten (map f (count_up n (suc from)))),
      )

-- Values along a range of which one, that of c, is changed.
pub set_along : {A : Type 0} (f g : ℕ → A) (n from c : ℕ) → from ≤ c → c < from + n → ((i : ℕ) → from ≤ i → i < from + n → (i ≡ c → ⊥) → g i ≡ f i)
    → map g (count_up n from) ≡ set (map f (count_up n from)) (c - from) (g c)
unfolding count_up
set_along f g zero from c low high others = absurd (omega arith)
set_along {A} f g (suc n) from c low high others =
    go (eqb c from) refl (λ l. set_along f g n (suc from) c l (omega arith) (λ i least most. others i (omega arith) (omega arith)))
  where
    go : (b : Bool) → eqb c from ≡ b
        → (suc from ≤ c → map g (count_up n (suc from)) ≡ set (map f (count_up n (suc from))) (c - suc from) (g c))
        → g from ∷ map g (count_up n (suc from)) ≡ set (f from ∷ map f (count_up n (suc from))) (c - from) (g c)
    go true e ih =
        let same : c ≡ from = eqb-true c from e in
        let first : c - from ≡ 0 = omega arith in
        rw first
        (ap₂ {C = List A} ◌∷◌ (ap g (sym same)) (map_agrees g f n (suc from) (λ i least most. others i (omega arith) (omega arith) (λ z. omega arith))))
    go false e ih =
        let later : c - from ≡ suc (c - suc from) = omega (arith, eqb-false c from e) in
        rw later (ap₂ {C = List A} ◌∷◌ (others from (omega arith) (omega arith) (λ z. eqb-false c from e (sym z))) (ih (omega (arith, eqb-false c from e))))

-- ---- maps and chains

-- Two functions that agree on what stands in a list.
pub map_on : {A : Type 0} (f g : ℕ → A) (xs : List ℕ) → ((x : ℕ) → 1 ≤ times x xs → f x ≡ g x) → map f xs ≡ map g xs
unfolding times
map_on f g [] agree = refl
map_on {A} f g (x ∷ xs) agree =
    ap₂ {C = List A} ◌∷◌ (agree x (rw (eq-eqb x x refl) (omega arith))) (map_on f g xs (λ y there. agree y (omega arith)))

-- A chain whose records lead on as before is the same chain.
pub same-chain : (s t : List ℕ) (fuel r : ℕ) → ((x : ℕ) → 1 ≤ times x (chain s fuel r) → next_at t x ≡ next_at s x) → chain t fuel r ≡ chain s fuel r
unfolding chain times
same-chain s t zero r leads = refl
same-chain s t (suc fuel) zero leads = refl
same-chain s t (suc fuel) (suc r) leads =
    let next = leads (suc r) (rw (eq-eqb (suc r) (suc r) refl) (omega arith)) in
    ap {B = List ℕ} (λ l. suc r ∷ l) (ap (chain t fuel) next ∙ same-chain s t fuel (next_at s (suc r)) (λ x there. leads x (omega arith)))
