-- The test of "at most g different values on lots 0 to n" agrees with the proposition.
use Prim.Native.Nat.{ℕ, suc, ◌≤◌}
use mathlib.Core.Bool.{Bool, true, false, cond, ◌||◌, false≢true}
use mathlib.Core.List.{List, [], ◌∷◌, map}
use mathlib.Core.Logic.{◌⊎◌, inl, inr, ◌≢◌}
use mathlib.Core.Path.{◌≡◌, refl, sym, ◌∙◌}
use native.Mathlib.Omega.{arith}
use borrow.Author.Tests.{eqb-true, eq-eqb, leb-true, le-leb}
use lib.Dec.{leb, eqb}
use Rattle.sheet.specs.Conditions.{count_up}
use Rattle.buffers.specs.Lists.{All}
use Rattle.sheet.proofs.Ranges.{all_along}
use Rattle.equality.proofs.Meaning.{Decides}
use Rattle.equality.proofs.Tests.{or_cases}
use Rattle.limit.specs.Meaning.{Limit, unlimited, up_to, Among, AtMost, Keeps, keeps, among, once, different_by, different}
use Rattle.limit.proofs.Among.{Pairwise, among_along, pigeonhole}

module _ {A : Type 0} (test : A → A → Bool) (decides : (x y : A) → Decides (test x y) (x ≡ y)) where
  among_true : (x : A) (vs : List A) → among test x vs ≡ true → Among x vs
  unfolding among
  among_true x [] e = absurd (false≢true e)
  among_true x (v ∷ vs) e = or_cases (test x v) (among test x vs) e (λ h. inl ((decides x v).0 h)) (λ h. inr (among_true x vs h))

  among_false : (x : A) (vs : List A) → among test x vs ≡ false → All (λ v. x ≢ v) vs
  unfolding among
  among_false x [] e = tt
  among_false x (v ∷ vs) e = go (test x v) refl e (among_false x vs)
    where
      go : (p : Bool) → test x v ≡ p → (p || among test x vs) ≡ false → (among test x vs ≡ false → All (λ v. x ≢ v) vs) → (x ≢ v) × All (λ v. x ≢ v) vs
      go true q e rest = absurd (false≢true (sym e))
      go false q e rest = ((λ equal. false≢true (sym q ∙ (decides x v).1 equal)), rest e)

  -- Each value once: pairwise different,
  once_differ : (xs : List A) → Pairwise (λ x y. x ≢ y) (once test xs)
  unfolding once
  once_differ [] = tt
  once_differ (x ∷ xs) = go (among test x (once test xs)) refl (once_differ xs)
    where
      go : (p : Bool) → among test x (once test xs) ≡ p → Pairwise (λ x y. x ≢ y) (once test xs) → Pairwise (λ x y. x ≢ y) (cond p (once test xs) (x ∷ once test xs))
      go true q rest = rest
      go false q rest = (among_false x (once test xs) q, rest)

  -- no others,
  once_only : (P : A → Type 0) (xs : List A) → All P xs → All P (once test xs)
  unfolding once
  once_only P [] all = tt
  once_only P (x ∷ xs) all = go (among test x (once test xs)) (once_only P xs all.1)
    where
      go : (p : Bool) → All P (once test xs) → All P (cond p (once test xs) (x ∷ once test xs))
      go true rest = rest
      go false rest = (all.0, rest)

  -- and all of them.
  once_all : (x : A) (xs : List A) → Among x xs → Among x (once test xs)
  unfolding once
  once_all x [] m = absurd m
  once_all x (y ∷ xs) m = go (among test y (once test xs)) refl m (once_all x xs)
    where
      go : (p : Bool) → among test y (once test xs) ≡ p → (x ≡ y) ⊎ Among x xs → (Among x xs → Among x (once test xs)) → Among x (cond p (once test xs) (y ∷ once test xs))
      go true q (inl e) rest = rw e (among_true y (once test xs) q)
      go true q (inr m) rest = rest m
      go false q (inl e) rest = inl e
      go false q (inr m) rest = inr (rest m)

  -- At most as many values as are counted,
  pub count_covers : (n : ℕ) (f : ℕ → A) → AtMost A (different_by test n f) n f
  unfolding different_by
  count_covers n f =
      record {
        values = once test (map f (count_up (suc n) 0));
        few = omega arith;
        has = λ lot h. once_all (f lot) (map f (count_up (suc n) 0)) (among_along f (suc n) 0 lot (omega arith) (omega arith));
      }

  -- and not fewer.
  pub count-least : (g n : ℕ) (f : ℕ → A) → AtMost A g n f → different_by test n f ≤ g
  unfolding different_by
  count-least g n f most =
      let xs = once test (map f (count_up (suc n) 0)) in
      omega (
        arith,
        most.few,
        pigeonhole (λ (x : A). x) xs most.values (once_differ (map f (count_up (suc n) 0)))
            (once_only (λ x. Among x most.values) (map f (count_up (suc n) 0))
            (all_along f (λ x. Among x most.values) (suc n) 0 (λ lot low high. most.has lot (omega arith)))),
      )

  pub at_most_decides : (g n : ℕ) (f : ℕ → A) → Decides (leb (different_by test n f) g) (AtMost A g n f)
  at_most_decides g n f = (
    (λ e. let few : different_by test n f ≤ g = leb-true (different_by test n f) g e in
        let most = count_covers n f in
        record { values = most.values; few = omega (arith, most.few); has = most.has }),
    (λ most. le-leb (different_by test n f) g (count-least g n f most)),
  )

-- For numbers: at most g different ones, by the test, exactly where some g numbers or fewer are all that lots 0 to n have.
pub numbers_decide : (g n : ℕ) (f : ℕ → ℕ) → Decides (leb (different n f) g) (AtMost ℕ g n f)
numbers_decide g n f = at_most_decides eqb (λ x y. (eqb-true x y, eq-eqb x y)) g n f

-- The same with a limit or without one.
pub keeps_decides : (limit : Limit) (n : ℕ) (f : ℕ → ℕ) → Decides (keeps limit n f) (Keeps limit n f)
keeps_decides unlimited n f = (λ _. tt, λ _. refl)
keeps_decides (up_to g) n f = numbers_decide g n f
