-- No path joins more often than there are lots to join: each join makes one class fewer, and the class of entry 0 is always left.
use Prim.Native.Nat.{ℕ, zero, suc, ◌+◌, ◌-◌, ◌≤◌, ◌<◌, min}
use mathlib.Core.Bool.{Bool, true, false, cond, ◌||◌, or-true}
use mathlib.Core.List.{List, [], ◌∷◌}
use mathlib.Core.Logic.{◌⊎◌, inl, inr, ⊎_elim}
use mathlib.Core.Path.{◌≡◌, refl, sym, ap, ap₂, ◌∙◌}
use native.Mathlib.Omega.{arith}
use borrow.Author.Tests.{eqb-true, eqb-false, eq-eqb, ne_eqb, leb-true, leb-false}
use lib.Dec.{eqb, leb}
use Rattle.sheet.specs.Format.{most_lots}
use Rattle.sheet.specs.Conditions.{same, apart}
use Rattle.buffers.specs.Lists.{All}
use Rattle.equality.specs.Node.{Decisions, merged, class_of, classes, smallest_lot, share}
use Rattle.equality.specs.Opens.{Small}
use Rattle.equality.proofs.Tests.{or_cases}
use Rattle.equality.proofs.Classes.{joined_to, same_class}
use Rattle.equality.proofs.Least.{least, least-again}
use Rattle.classes.specs.Joins.{joins}

-- ---- how many numbers below n pass a test

unfoldable count : (ℕ → Bool) → ℕ → ℕ
count p zero = 0
count p (suc n) = cond (p n) (suc (count p n)) (count p n)

count_most : (p : ℕ → Bool) (n : ℕ) → count p n ≤ n
unfolding count
count_most p zero = omega arith
count_most p (suc n) = go (p n) (count_most p n)
  where
    go : (b : Bool) → count p n ≤ n → cond b (suc (count p n)) (count p n) ≤ suc n
    go true h = omega arith
    go false h = omega arith

count_agree : (p q : ℕ → Bool) (n : ℕ) → ((i : ℕ) → i < n → q i ≡ p i) → count q n ≡ count p n
unfolding count
count_agree p q zero agree = refl
count_agree p q (suc n) agree =
    let below : count q n ≡ count p n = count_agree p q n (λ i h. agree i (omega arith)) in
    λ i. cond (agree n (omega arith) i) (suc (below i)) (below i)

-- Where 0 passes, one does.
count-first : (p : ℕ → Bool) (n : ℕ) → p 0 ≡ true → 1 ≤ count p (suc n)
unfolding count
count-first p zero e = rw e (omega arith)
count-first p (suc n) e = go (p (suc n)) (count-first p n e)
  where
    go : (b : Bool) → 1 ≤ count p (suc n) → 1 ≤ cond b (suc (count p (suc n))) (count p (suc n))
    go true h = omega arith
    go false h = h

-- Where k passes one test and not another, and the two agree on all others, one fewer passes.
module _ (p q : ℕ → Bool) (k : ℕ) (was : p k ≡ true) (is : q k ≡ false) where
  one_fewer : (n : ℕ) → k < n → ((i : ℕ) → i < n → (i ≡ k → ⊥) → q i ≡ p i) → count p n ≡ suc (count q n)
  unfolding count
  one_fewer zero h agree = absurd (omega arith)
  one_fewer (suc n) h agree = go (eqb n k) refl (λ lt. one_fewer n lt (λ i below. agree i (omega arith)))
    where
      each : (b : Bool) → count p n ≡ suc (count q n) → cond b (suc (count p n)) (count p n) ≡ suc (cond b (suc (count q n)) (count q n))
      each true below = ap suc below
      each false below = below

      go : (b : Bool) → eqb n k ≡ b → (k < n → count p n ≡ suc (count q n)) → cond (p n) (suc (count p n)) (count p n) ≡ suc (cond (q n) (suc (count q n)) (count q n))
      go true e below =
          let here : n ≡ k = eqb-true n k e in
          let passes : p n ≡ true = ap p here ∙ was in
          let fails : q n ≡ false = ap q here ∙ is in
          let agrees : count q n ≡ count p n = count_agree p q n (λ i lt. agree i (omega arith) (λ r. omega arith)) in
          rw (passes, fails) (ap suc (sym agrees))
      go false e below =
          let other = eqb-false n k e in
          let lt : k < n = omega (arith, h, other) in
          rw (agree n (omega arith) other) (each (p n) (below lt))

-- ---- the classes that are left

-- An entry that is its own class is the smallest of one: so many classes are there.
is_smallest : List ℕ → ℕ → Bool
is_smallest cs i = eqb (class_of cs i) i

unfoldable left : List ℕ → ℕ
left cs = count (is_smallest cs) (suc most_lots)

left_most : (cs : List ℕ) → left cs ≤ suc most_lots
unfolding left
left_most cs = count_most (is_smallest cs) (suc most_lots)

-- A class joined with itself changes nothing.
pub merged_self : (x : ℕ) (l : List ℕ) → merged x x l ≡ l
unfolding merged
merged_self x [] = refl
merged_self x (z ∷ l) = ap₂ ◌∷◌ (go (eqb z x) refl) (merged_self x l)
  where
    go : (p : Bool) → eqb z x ≡ p → cond (p || p) (min x x) z ≡ z
    go true e = omega (arith, eqb-true z x e)
    go false e = refl

-- Two lots that share no class have one class fewer once they are set same.
module _ (ds : Decisions) (small : All Small ds) (a b : ℕ) (ha : a ≤ most_lots) (hb : b ≤ most_lots) (differ : share ds a b ≡ false) where
  abbrev x : ℕ
  x = smallest_lot ds a

  abbrev y : ℕ
  y = smallest_lot ds b

  abbrev larger : ℕ
  larger = x + y - min x y

  abbrev Either : ℕ → Type 0
  Either e = (e ≡ x) ⊎ (e ≡ y)

  either_small : (e : ℕ) → Either e → e ≤ most_lots
  either_small e (inl q) = omega (arith, q, least ds a)
  either_small e (inr q) = omega (arith, q, least ds b)

  either_smallest : (e : ℕ) → Either e → smallest_lot ds e ≡ e
  either_smallest e (inl q) = rw q (least-again ds a)
  either_smallest e (inr q) = rw q (least-again ds b)

  either_joined : (e : ℕ) → Either e → joined_to x y e ≡ min x y
  either_joined e (inl q) = simp (eq-eqb e x q)
  either_joined e (inr q) = simp (eq-eqb e y q, or-true)

  smaller_either : Either (min x y)
  smaller_either = go (leb x y) refl
    where
      go : (p : Bool) → leb x y ≡ p → (min x y ≡ x) ⊎ (min x y ≡ y)
      go true e = inl (omega (arith, leb-true x y e))
      go false e = inr (omega (arith, leb-false x y e))

  larger_either : Either larger
  larger_either = go (leb x y) refl
    where
      go : (p : Bool) → leb x y ≡ p → (larger ≡ x) ⊎ (larger ≡ y)
      go true e = inr (omega (arith, leb-true x y e))
      go false e = inl (omega (arith, leb-false x y e))

  -- The larger of the two is no class any more,
  larger_was : is_smallest (classes ds) larger ≡ true
  unfolding is_smallest
  larger_was = eq-eqb _ _ (either_smallest larger larger_either)

  larger_is : is_smallest (classes (same a b ∷ ds)) larger ≡ false
  unfolding is_smallest
  larger_is =
      let becomes : smallest_lot (same a b ∷ ds) larger ≡ min x y =
      same_class ds a b larger
      ∙ ap (joined_to x y) (either_smallest larger larger_either)
      ∙ either_joined larger larger_either in
      ne_eqb (smallest_lot (same a b ∷ ds) larger) larger (λ e. eqb-false x y differ (omega (arith, becomes)))

  -- and every other entry is or is not the smallest of a class as before.
  others : (i : ℕ) → i < suc most_lots → (i ≡ larger → ⊥) → is_smallest (classes (same a b ∷ ds)) i ≡ is_smallest (classes ds) i
  unfolding is_smallest
  others i h other = ap (λ (k : ℕ). eqb k i) (same_class ds a b i) ∙ go (eqb (smallest_lot ds i) x || eqb (smallest_lot ds i) y) refl
    where
      by : Either (smallest_lot ds i) → (p : Bool) → eqb (min x y) i ≡ p → p ≡ eqb (smallest_lot ds i) i
      by e true q =
          let at : i ≡ min x y = sym (eqb-true (min x y) i q) in
          sym (eq-eqb (smallest_lot ds i) i (ap (smallest_lot ds) at ∙ either_smallest (min x y) smaller_either ∙ sym at))
      by e false q = sym (ne_eqb (smallest_lot ds i) i (λ r. eqb-false (min x y) i q (⊎_elim (λ u. omega arith) (λ u. omega arith) e)))

      go : (p : Bool) → (eqb (smallest_lot ds i) x || eqb (smallest_lot ds i) y) ≡ p → eqb (cond p (min x y) (smallest_lot ds i)) i ≡ eqb (smallest_lot ds i) i
      go true e =
          by (or_cases (eqb (smallest_lot ds i) x) (eqb (smallest_lot ds i) y) e (λ q. inl (eqb-true (smallest_lot ds i) x q)) (λ q. inr (eqb-true (smallest_lot ds i) y q)))
          (eqb (min x y) i) refl
      go false e = refl

  one_class_fewer : left (classes ds) ≡ suc (left (classes (same a b ∷ ds)))
  unfolding left
  one_class_fewer =
      one_fewer (is_smallest (classes ds)) (is_smallest (classes (same a b ∷ ds))) larger larger_was larger_is (suc most_lots)
      (omega (arith, either_small larger larger_either)) others

-- ---- the bound

-- A pair that shares a class joins nothing.
pub shared_classes : (ds : Decisions) (a b : ℕ) → share ds a b ≡ true → classes (same a b ∷ ds) ≡ classes ds
unfolding classes
shared_classes ds a b e = ap (λ (k : ℕ). merged (smallest_lot ds a) k (classes ds)) (sym (eqb-true _ _ e)) ∙ merged_self _ (classes ds)

apart-classes : (ds : Decisions) (a b : ℕ) → classes (apart a b ∷ ds) ≡ classes ds
unfolding classes
apart-classes ds a b = refl

-- What is joined and what is left come to no more than there were,
joined_and_left : (ds : Decisions) → All Small ds → joins ds + left (classes ds) ≤ suc most_lots
unfolding joins
joined_and_left [] small = omega (arith, left_most (classes []))
joined_and_left (apart a b ∷ ds) small = rw (apart-classes ds a b) (joined_and_left ds small.1)
joined_and_left (same a b ∷ ds) small = go (share ds a b) refl (joined_and_left ds small.1)
  where
    go : (p : Bool) → share ds a b ≡ p → joins ds + left (classes ds) ≤ suc most_lots
        → cond p (joins ds) (suc (joins ds)) + left (classes (same a b ∷ ds)) ≤ suc most_lots
    go false e before = omega (arith, one_class_fewer ds small.1 a b small.0.0 small.0.1 e, before)
    go true e before = rw (shared_classes ds a b e) before

-- and entry 0 is left.
pub joins_most : (ds : Decisions) → All Small ds → joins ds ≤ most_lots
unfolding left is_smallest
joins_most ds small =
    let first : is_smallest (classes ds) 0 ≡ true = eq-eqb (smallest_lot ds 0) 0 (omega (arith, least ds 0)) in
    omega (arith, joined_and_left ds small, count-first (is_smallest (classes ds)) most_lots first)
