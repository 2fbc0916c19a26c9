-- Values that stand in a list, and pairs of a list: no more pairwise different values than the list has that they all stand in (pigeonhole).
use Prim.Native.Nat.{ℕ, zero, suc, ◌+◌, ◌≤◌, ◌<◌}
use mathlib.Core.Bool.{Bool, true, false}
use mathlib.Core.List.{List, [], ◌∷◌, ◌++◌, map}
use mathlib.Core.Logic.{inl, inr, ◌≢◌}
use mathlib.Core.Path.{◌≡◌, refl, sym, ap, ◌∙◌}
use native.Mathlib.Omega.{arith}
use borrow.Author.Tests.{eqb-true, eqb-false}
use lib.Dec.{eqb}
use lib.ListN.{length, take}
use lib.Seq.{take-take}
use Rattle.sheet.specs.Conditions.{count_up}
use Rattle.buffers.specs.Lists.{All}
use Rattle.limit.specs.Meaning.{Among}

-- R holds of each element and each later one.
abbrev pub Pairwise : {A : Type 0} → (A → A → Type 0) → List A → Type 0
Pairwise R [] = Unit {0}
Pairwise R (x ∷ xs) = All (R x) xs × Pairwise R xs

module _ {A : Type 0} where
  -- What holds of all holds of what stands among them.
  pub all_among : (P : A → Type 0) (x : A) (xs : List A) → All P xs → Among x xs → P x
  all_among P x [] all m = absurd m
  all_among P x (y ∷ xs) all (inl e) = rw e all.0
  all_among P x (y ∷ xs) all (inr m) = all_among P x xs all.1 m

  pub among-left : (x : A) (xs ys : List A) → Among x xs → Among x (xs ++ ys)
  among-left x [] ys m = absurd m
  among-left x (y ∷ xs) ys (inl e) = inl e
  among-left x (y ∷ xs) ys (inr m) = inr (among-left x xs ys m)

  pub among_right : (x : A) (xs ys : List A) → Among x ys → Among x (xs ++ ys)
  among_right x [] ys m = m
  among_right x (y ∷ xs) ys m = inr (among_right x xs ys m)

  -- The value at each number of a range stands among the values along it.
  pub among_along : (f : ℕ → A) (count from i : ℕ) → from ≤ i → i < from + count → Among (f i) (map f (count_up count from))
  unfolding count_up
  among_along f zero from i low high = absurd (omega arith)
  among_along f (suc count) from i low high = go (eqb i from) refl (λ l. among_along f count (suc from) i l (omega arith))
    where
      go : (p : Bool) → eqb i from ≡ p → (suc from ≤ i → Among (f i) (map f (count_up count (suc from))))
          → Among (f i) (f from ∷ map f (count_up count (suc from)))
      go true q rest = inl (ap f (eqb-true i from q))
      go false q rest = inr (rest (omega (arith, eqb-false i from q)))

  pub all_take : (P : A → Type 0) (k : ℕ) (xs : List A) → All P xs → All P (take k xs)
  all_take P zero xs all = tt
  all_take P (suc k) [] all = tt
  all_take P (suc k) (x ∷ xs) all = (all.0, all_take P k xs all.1)

  pub pairwise_take : (R : A → A → Type 0) (k : ℕ) (xs : List A) → Pairwise R xs → Pairwise R (take k xs)
  pairwise_take R zero xs pairs = tt
  pairwise_take R (suc k) [] pairs = tt
  pairwise_take R (suc k) (x ∷ xs) pairs = (all_take (R x) k xs pairs.0, pairwise_take R k xs pairs.1)

  -- What holds along a longer part holds along a shorter one.
  pub pairwise_shorter : (R : A → A → Type 0) (k l : ℕ) → k ≤ l → (xs : List A) → Pairwise R (take l xs) → Pairwise R (take k xs)
  pairwise_shorter R k l h xs pairs =
      let again : take k (take l xs) ≡ take k xs = take-take k l xs h in
      rw (← again) (pairwise_take R k (take l xs) pairs)

  pub pairwise_map : {R S : A → A → Type 0} → ((x y : A) → R x y → S x y) → (xs : List A) → Pairwise R xs → Pairwise S xs
  pairwise_map {R} {S} h [] pairs = tt
  pairwise_map {R} {S} h (x ∷ xs) pairs = (all x xs pairs.0, pairwise_map {R = R} {S = S} h xs pairs.1)
    where
      all : (x : A) (xs : List A) → All (R x) xs → All (S x) xs
      all x [] a = tt
      all x (y ∷ xs) a = (h x y a.0, all x xs a.1)

  -- What holds of each, and of each pair.
  pub pairwise_with : (R : A → A → Type 0) (P : A → Type 0) (xs : List A) → Pairwise R xs → All P xs → Pairwise (λ x y. P x × P y × R x y) xs
  pairwise_with R P [] pairs all = tt
  pairwise_with R P (x ∷ xs) pairs all = (each xs pairs.0 all.1, pairwise_with R P xs pairs.1 all.1)
    where
      each : (ys : List A) → All (R x) ys → All P ys → All (λ y. P x × P y × R x y) ys
      each [] r p = tt
      each (y ∷ ys) r p = ((all.0, p.0, r.0), each ys r.1 p.1)

-- ---- a list without one of its values, by the place where it stands

module _ {A : Type 0} where
  without : (x : A) (vs : List A) → Among x vs → List A
  without x [] m = absurd m
  without x (v ∷ vs) (inl e) = vs
  without x (v ∷ vs) (inr m) = v ∷ without x vs m

  without_length : (x : A) (vs : List A) (m : Among x vs) → length vs ≡ suc (length (without x vs m))
  unfolding without
  without_length x [] m = absurd m
  without_length x (v ∷ vs) (inl e) = refl
  without_length x (v ∷ vs) (inr m) = ap suc (without_length x vs m)

  -- Another value still stands there.
  without_other : (x y : A) → x ≢ y → (vs : List A) (m : Among x vs) → Among y vs → Among y (without x vs m)
  unfolding without
  without_other x y differ [] m k = absurd m
  without_other x y differ (v ∷ vs) (inl e) (inl q) = absurd (differ (e ∙ sym q))
  without_other x y differ (v ∷ vs) (inl e) (inr k) = k
  without_other x y differ (v ∷ vs) (inr m) (inl q) = inl q
  without_other x y differ (v ∷ vs) (inr m) (inr k) = inr (without_other x y differ vs m k)

-- Where f has pairwise different values along a list, and all of them stand in another list, that one is at least as long.
module _ {A B : Type 0} (f : B → A) where
  pub pigeonhole : (xs : List B) (vs : List A) → Pairwise (λ x y. f x ≢ f y) xs → All (λ x. Among (f x) vs) xs → length xs ≤ length vs
  pigeonhole [] vs pairs all = omega arith
  pigeonhole (x ∷ xs) vs pairs all =
      omega (arith, without_length (f x) vs all.0, pigeonhole xs (without (f x) vs all.0) pairs.1 (others xs pairs.0 all.1))
    where
      others : (ys : List B) → All (λ y. f x ≢ f y) ys → All (λ y. Among (f y) vs) ys → All (λ y. Among (f y) (without (f x) vs all.0)) ys
      others [] differ among' = tt
      others (y ∷ ys) differ among' =
          (without_other (f x) (f y) differ.0 vs all.0 among'.0, others ys differ.1 among'.1)
