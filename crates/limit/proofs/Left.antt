-- The classes left of lots 0 to n: lots 0 to n that are the smallest of their class, all of them, rising.
use Prim.Native.Nat.{ℕ, zero, suc, ◌+◌, ◌≤◌, ◌<◌}
use mathlib.Core.Bool.{Bool, true, false, cond}
use mathlib.Core.List.{List, ◌∷◌}
use mathlib.Core.Logic.{inl, inr}
use mathlib.Core.Path.{◌≡◌, refl}
use native.Mathlib.Omega.{arith}
use borrow.Author.Tests.{eqb-true, eqb-false}
use lib.Dec.{eqb}
use Rattle.buffers.specs.Lists.{All}
use Rattle.equality.specs.Node.{Decisions, class_of, classes, smallest_lot}
use Rattle.equality.proofs.Least.{least, least-again, zero_class}
use Rattle.limit.specs.Meaning.{Among}
use Rattle.limit.specs.Rule.{smallest_from, classes_left}
use Rattle.limit.proofs.Among.{Pairwise}

module _ (cs : List ℕ) where
  -- What holds of each smallest lot of the range holds of all.
  pub from_all : (P : ℕ → Type 0) (count from : ℕ) → ((lot : ℕ) → from ≤ lot → lot < from + count → class_of cs lot ≡ lot → P lot)
      → All P (smallest_from cs count from)
  unfolding smallest_from
  from_all P zero from h = tt
  from_all P (suc count) from h =
      go (eqb (class_of cs from) from) refl (from_all P count (suc from) (λ lot low high e. h lot (omega arith) (omega arith) e))
    where
      go : (p : Bool) → eqb (class_of cs from) from ≡ p → All P (smallest_from cs count (suc from))
          → All P (cond p (from ∷ smallest_from cs count (suc from)) (smallest_from cs count (suc from)))
      go true q rest = (h from (omega arith) (omega arith) (eqb-true (class_of cs from) from q), rest)
      go false q rest = rest

  pub from_rising : (count from : ℕ) → Pairwise ◌<◌ (smallest_from cs count from)
  unfolding smallest_from
  from_rising zero from = tt
  from_rising (suc count) from = go (eqb (class_of cs from) from) (from_rising count (suc from))
    where
      go : (p : Bool) → Pairwise ◌<◌ (smallest_from cs count (suc from))
          → Pairwise ◌<◌ (cond p (from ∷ smallest_from cs count (suc from)) (smallest_from cs count (suc from)))
      go true rest = (from_all (λ lot. from < lot) count (suc from) (λ lot low high e. low), rest)
      go false rest = rest

  from_among : (count from lot : ℕ) → from ≤ lot → lot < from + count → class_of cs lot ≡ lot → Among lot (smallest_from cs count from)
  unfolding smallest_from
  from_among zero from lot low high e = absurd (omega arith)
  from_among (suc count) from lot low high e =
      go (eqb (class_of cs from) from) refl (eqb lot from) refl (λ l. from_among count (suc from) lot l (omega arith) e)
    where
      go : (p : Bool) → eqb (class_of cs from) from ≡ p → (q : Bool) → eqb lot from ≡ q → (suc from ≤ lot → Among lot (smallest_from cs count (suc from)))
          → Among lot (cond p (from ∷ smallest_from cs count (suc from)) (smallest_from cs count (suc from)))
      go true ep true eq rest = inl (eqb-true lot from eq)
      go true ep false eq rest = inr (rest (omega (arith, eqb-false lot from eq)))
      go false ep true eq rest =
          let here : lot ≡ from = eqb-true lot from eq in absurd (eqb-false (class_of cs from) from ep (rw here at e))
      go false ep false eq rest = rest (omega (arith, eqb-false lot from eq))

module _ (n : ℕ) (ds : Decisions) where
  pub left_all : (P : ℕ → Type 0) → ((lot : ℕ) → lot ≤ n → smallest_lot ds lot ≡ lot → P lot) → All P (classes_left n ds)
  unfolding classes_left
  left_all P h = from_all (classes ds) P (suc n) 0 (λ lot low high e. h lot (omega arith) e)

  pub left_rising : Pairwise ◌<◌ (classes_left n ds)
  unfolding classes_left
  left_rising = from_rising (classes ds) (suc n) 0

  pub left-among : (lot : ℕ) → lot ≤ n → smallest_lot ds lot ≡ lot → Among lot (classes_left n ds)
  unfolding classes_left
  left-among lot h e = from_among (classes ds) (suc n) 0 lot (omega arith) (omega arith) e

  -- The class of each lot is among them.
  pub class_left : (lot : ℕ) → lot ≤ n → Among (smallest_lot ds lot) (classes_left n ds)
  class_left lot low = left-among (smallest_lot ds lot) (omega (arith, least ds lot)) (least-again ds lot)

  -- "the hold's consignment always counts as one" (document 02): lot 0's class is.
  pub zero_left : Among 0 (classes_left n ds)
  zero_left = left-among 0 (omega arith) (zero_class ds)
