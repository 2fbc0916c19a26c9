-- Laws of what holds of each element of a list.
use Prim.Native.Nat.{ℕ, zero, suc, ◌<◌}
use mathlib.Core.List.{List, [], ◌∷◌, ◌++◌}
use native.Mathlib.Omega.{arith}
use lib.ListN.{length, get_or}
use Rattle.buffers.specs.Lists.{All}

-- What holds of each element, and implies another thing there, implies it of each;
pub all_map : {A : Type 0} {P Q : A → Type 0} → ((x : A) → P x → Q x) → (xs : List A) → All P xs → All Q xs
all_map f [] h = tt
all_map f (x ∷ xs) h = (f x h.0, all_map f xs h.1)

-- and so do two things that hold of each.
pub all_two : {A : Type 0} {P Q R : A → Type 0} → ((x : A) → P x → Q x → R x) → (xs : List A) → All P xs → All Q xs → All R xs
all_two f [] h k = tt
all_two f (x ∷ xs) h k = (f x h.0 k.0, all_two f xs h.1 k.1)

module _ {A : Type 0} (P : A → Type 0) where
  -- Of a list of two parts: of both together, of the first, of the second,
  pub all_both : (xs ys : List A) → All P xs → All P ys → All P (xs ++ ys)
  all_both [] ys hx hy = hy
  all_both (x ∷ xs) ys hx hy = (hx.0, all_both xs ys hx.1 hy)

  pub all_first : (xs ys : List A) → All P (xs ++ ys) → All P xs
  all_first [] ys h = tt
  all_first (x ∷ xs) ys h = (h.0, all_first xs ys h.1)

  pub all_second : (xs ys : List A) → All P (xs ++ ys) → All P ys
  all_second [] ys h = h
  all_second (x ∷ xs) ys h = all_second xs ys h.1

  -- of the element after a first part, and of the one at a place.
  pub all_at : (front : List A) (x : A) (back : List A) → All P (front ++ x ∷ back) → P x
  all_at front x back h = (all_second front (x ∷ back) h).0

  pub all_nth : (xs : List A) (d : A) → All P xs → (i : ℕ) → i < length xs → P (get_or xs i d)
  all_nth [] d h i less = absurd (omega arith)
  all_nth (x ∷ xs) d h zero less = h.0
  all_nth (x ∷ xs) d h (suc i) less = all_nth xs d h.1 i (omega arith)
