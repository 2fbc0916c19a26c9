-- How often a number stands in a list; a list where each stands no more often is no longer.
use Prim.Native.Nat.{ℕ, suc, ◌+◌, ◌≤◌}
use mathlib.Core.Bool.{Bool, true, false, ◌||◌}
use mathlib.Core.List.{List, [], ◌∷◌, ◌++◌}
use mathlib.Core.Path.{◌≡◌, refl, sym, ap, ◌∙◌}
use native.Mathlib.Omega.{arith}
use lib.Dec.{eqb, ltb}
use lib.ListN.{length}
use borrow.Author.Tests.{eqb-true, eq-eqb, lt-ltb, ltb-true, ltb-false}
use Rattle.sheet.specs.Checks.{member}

-- ---- how often

-- A test as a number.
abbrev pub bit : Bool → ℕ
bit true = 1
bit false = 0

pub bit_le : (b : Bool) → bit b ≤ 1
bit_le true = omega arith
bit_le false = omega arith

-- How often x stands in a list.
unfoldable pub times : ℕ → List ℕ → ℕ
times x [] = 0
times x (y ∷ ys) = bit (eqb x y) + times x ys

-- In two lists together.
pub times_append : (x : ℕ) (xs ys : List ℕ) → times x (xs ++ ys) ≡ times x xs + times x ys
unfolding times
times_append x [] ys = omega arith
times_append x (y ∷ xs) ys = omega (arith, times_append x xs ys)

member_is : (x : ℕ) (xs : List ℕ) → member x xs ≡ ltb 0 (times x xs)
unfolding member times
member_is x [] = refl
member_is x (y ∷ ys) = go (eqb x y) (member_is x ys)
  where
    go : (b : Bool) → member x ys ≡ ltb 0 (times x ys) → (b || member x ys) ≡ ltb 0 (bit b + times x ys)
    go true ih = sym (lt-ltb 0 (1 + times x ys) (omega arith))
    go false ih = let n : 0 + times x ys ≡ times x ys = omega arith in rw n ih

-- A member stands there at least once;
pub member_times : (x : ℕ) (xs : List ℕ) → member x xs ≡ true → 1 ≤ times x xs
member_times x xs e = ltb-true 0 _ (sym (member_is x xs) ∙ e)

-- what stands there is a member;
pub times_member : (x : ℕ) (xs : List ℕ) → 1 ≤ times x xs → member x xs ≡ true
times_member x xs h = member_is x xs ∙ lt-ltb 0 _ h

-- what is no member does not stand there.
pub absent_times : (x : ℕ) (xs : List ℕ) → member x xs ≡ false → times x xs ≡ 0
absent_times x xs e = omega (arith, ltb-false 0 (times x xs) (sym (member_is x xs) ∙ e))

-- ---- as often, so as long

-- A list without one of its numbers.
without : (x : ℕ) (ys : List ℕ) → 1 ≤ times x ys
    → (rest : List ℕ) × (length ys ≡ suc (length rest)) × ((z : ℕ) → times z ys ≡ bit (eqb z x) + times z rest)
unfolding times
without x [] h = absurd (omega arith)
without x (y ∷ ys) h = go (eqb x y) refl h (without x ys)
  where
    go : (b : Bool) → eqb x y ≡ b → 1 ≤ bit b + times x ys
        → (1 ≤ times x ys → (rest : List ℕ) × (length ys ≡ suc (length rest)) × ((z : ℕ) → times z ys ≡ bit (eqb z x) + times z rest))
        → (rest : List ℕ) × (suc (length ys) ≡ suc (length rest)) × ((z : ℕ) → bit (eqb z y) + times z ys ≡ bit (eqb z x) + times z rest)
    go true e h ih = (ys, refl, λ z. rw (eqb-true x y e))
    go false e h ih = let (rest, l, t) = ih (omega arith) in (y ∷ rest, ap suc l, λ z. omega (arith, t z))

-- Where each number stands no more often in xs than in ys, xs is no longer than ys.
pub no_longer : (xs ys : List ℕ) → ((x : ℕ) → times x xs ≤ times x ys) → length xs ≤ length ys
unfolding times
no_longer [] ys h = omega arith
no_longer (x ∷ xs) ys h =
    let one : bit (eqb x x) ≡ 1 = rw (eq-eqb x x refl) in
    let (rest, l, t) = without x ys (omega (arith, h x)) in
    omega (arith, no_longer xs rest (λ z. omega (arith, h z, t z)))
