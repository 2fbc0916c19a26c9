-- Lists that count up, and what is collected along them.
use Prim.Native.Nat.{ℕ, zero, suc, ◌+◌, ◌≤◌, ◌<◌}
use mathlib.Core.Bool.{Bool, true, false}
use mathlib.Core.List.{List, ◌∷◌, ◌++◌, map, flatten}
use mathlib.Core.Path.{◌≡◌, refl, ap, ap₂, ◌∙◌}
use native.Mathlib.Omega.{arith}
use lib.Dec.{eqb, leb}
use lib.ListN.{length, get_or, length-map}
use borrow.Author.Tests.{eqb-true, eqb-false, ne_eqb, leb-true, leb-false}
use Rattle.sheet.specs.Conditions.{count_up}
use Rattle.buffers.specs.Lists.{All}
use Rattle.sheet.proofs.Times.{bit, times, times_append}

-- ---- the numbers from `from` on

-- There are as many as were asked for.
pub length-count_up : (n from : ℕ) → length (count_up n from) ≡ n
unfolding count_up
length-count_up zero from = refl
length-count_up (suc n) from = ap suc (length-count_up n (suc from))

-- Only numbers of the range stand in it,
pub times_range : (x n from : ℕ) → 1 ≤ times x (count_up n from) → (from ≤ x) × (x < from + n)
unfolding count_up times
times_range x zero from h = absurd (omega arith)
times_range x (suc n) from h = go (eqb x from) refl h (times_range x n (suc from))
  where
    go : (b : Bool) → eqb x from ≡ b → 1 ≤ bit b + times x (count_up n (suc from)) → (1 ≤ times x (count_up n (suc from)) → (suc from ≤ x) × (x < suc from + n))
        → (from ≤ x) × (x < from + suc n)
    go true e h ih = let q : x ≡ from = eqb-true x from e in omega arith
    go false e h ih = let r : (suc from ≤ x) × (x < suc from + n) = ih (omega arith) in omega arith

below_times : (x n from : ℕ) → x < from → times x (count_up n from) ≡ 0
unfolding count_up times
below_times x zero from h = refl
below_times x (suc n) from h = rw (ne_eqb x from (λ e. omega arith)) (omega (arith, below_times x n (suc from) (omega arith)))

-- and each of them once.
pub range_times : (x n from : ℕ) → from ≤ x → x < from + n → times x (count_up n from) ≡ 1
unfolding count_up times
range_times x zero from low high = absurd (omega arith)
range_times x (suc n) from low high = go (eqb x from) refl (λ l. range_times x n (suc from) l (omega arith))
  where
    go : (b : Bool) → eqb x from ≡ b → (suc from ≤ x → times x (count_up n (suc from)) ≡ 1) → bit b + times x (count_up n (suc from)) ≡ 1
    go true e ih = let q : x ≡ from = eqb-true x from e in omega (arith, below_times x n (suc from) (omega arith))
    go false e ih = omega (arith, ih (omega (arith, eqb-false x from e)))

-- ---- along a range

module _ {A : Type 0} (f : ℕ → A) where
  -- As many values as numbers.
  pub length_along : (n from : ℕ) → length (map f (count_up n from)) ≡ n
  length_along n from = length-map (count_up n from) f ∙ length-count_up n from

  -- The value at place i.
  pub get_or_along : (n from i : ℕ) (d : A) → i < n → get_or (map f (count_up n from)) i d ≡ f (from + i)
  unfolding count_up
  get_or_along zero from i d h = absurd (omega arith)
  get_or_along (suc n) from zero d h = let e : from + 0 ≡ from = omega arith in rw e
  get_or_along (suc n) from (suc i) d h = get_or_along n (suc from) i d (omega arith) ∙ (let e : suc from + i ≡ from + suc i = omega arith in rw e)

  -- Another function that agrees on the range gives the same values.
  pub map_agrees : (g : ℕ → A) (n from : ℕ) → ((c : ℕ) → from ≤ c → c < from + n → f c ≡ g c) → map f (count_up n from) ≡ map g (count_up n from)
  unfolding count_up
  map_agrees g zero from h = refl
  map_agrees g (suc n) from h =
      ap₂ {C = List A} ◌∷◌ (h from (omega arith) (omega arith)) (map_agrees g n (suc from) (λ c low high. h c (omega arith) (omega arith)))

  -- What holds of each value holds of all.
  pub all_along : (P : A → Type 0) (n from : ℕ) → ((c : ℕ) → from ≤ c → c < from + n → P (f c)) → All P (map f (count_up n from))
  unfolding count_up
  all_along P zero from h = tt
  all_along P (suc n) from h = (h from (omega arith) (omega arith), all_along P n (suc from) (λ c low high. h c (omega arith) (omega arith)))

module _ (f : ℕ → List ℕ) (x : ℕ) where
  -- Lists along a range: what stands in all of them together stands in one of them,
  pub some_along : (n from : ℕ) → 1 ≤ times x (flatten (map f (count_up n from))) → (c : ℕ) × (from ≤ c) × (c < from + n) × (1 ≤ times x (f c))
  unfolding count_up flatten times
  some_along zero from h = absurd (omega arith)
  some_along (suc n) from h = go (leb 1 (times x (f from))) refl (some_along n (suc from))
    where
      rest : List ℕ
      rest = flatten (map f (count_up n (suc from)))

      go : (b : Bool) → leb 1 (times x (f from)) ≡ b
          → (1 ≤ times x rest → (c : ℕ) × (suc from ≤ c) × (c < suc from + n) × (1 ≤ times x (f c)))
          → (c : ℕ) × (from ≤ c) × (c < from + suc n) × (1 ≤ times x (f c))
      go true e ih = (from, omega arith, omega arith, leb-true 1 (times x (f from)) e)
      go false e ih =
          let (c, low, high, there) = ih (omega (arith, times_append x (f from) rest, leb-false 1 (times x (f from)) e)) in
          (c, omega arith, omega arith, there)

  -- and stands in each no more often than in all.
  pub each_along : (n from c : ℕ) → from ≤ c → c < from + n → times x (f c) ≤ times x (flatten (map f (count_up n from)))
  unfolding count_up flatten
  each_along zero from c low high = absurd (omega arith)
  each_along (suc n) from c low high = go (eqb c from) refl (λ l. each_along n (suc from) c l (omega arith))
    where
      rest : List ℕ
      rest = flatten (map f (count_up n (suc from)))

      go : (b : Bool) → eqb c from ≡ b → (suc from ≤ c → times x (f c) ≤ times x rest) → times x (f c) ≤ times x (f from ++ rest)
      go true e ih = rw (eqb-true c from e) (omega (arith, times_append x (f from) rest))
      go false e ih = omega (arith, times_append x (f from) rest, ih (omega (arith, eqb-false c from e)))
