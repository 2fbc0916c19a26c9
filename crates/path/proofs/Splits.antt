-- The path in the numbers: what a push and a turn make of it, and which of its splits is the nearest in its same branch.
use Prim.Native.Nat.{ℕ, zero, suc, ◌+◌, ◌*◌, ◌-◌, ◌≤◌, ◌<◌}
use mathlib.Core.List.{List, ◌∷◌}
use mathlib.Core.Path.{◌≡◌, refl, sym, ap, ap₂, ◌∙◌}
use native.Mathlib.Numerals.{add-one}
use native.Mathlib.Omega.{arith}
use borrow.Author.Tests.{eq-eqb, ne_eqb}
use lib.ListN.{length, get_or, set, length-set}
use lib.Seq.{get_or-set_same, get_or-set_other}
use Rattle.sheet.specs.Conditions.{same, term_of}
use Rattle.refutation.specs.Refutation.{same_split, nearest, turned}
use Rattle.path.specs.Paths.{split_length, same_branch, apart_branch, branch_in, first_lot_in, second_lot_in, split_in, path_of, nearest_as}

-- The split of five numbers.
split_of_lem : (l : List ℕ) (i : ℕ) {n x w a b : ℕ} → get_or l (split_length * i) 0 ≡ n → get_or l (split_length * i + 1) 0 ≡ x → branch_in l i ≡ w
    → first_lot_in l i ≡ a → second_lot_in l i ≡ b → split_in l i ≡ record { number = n; next = x; decision = term_of w a b }
split_of_lem l i en ex ew ea eb = λ j. record { number = en j; next = ex j; decision = term_of (ew j) (ea j) (eb j) }

-- What the numbers are from the first `depth` splits on does not matter.
pub path_below : (l l' : List ℕ) (depth : ℕ) → ((j : ℕ) → j < split_length * depth → get_or l' j 0 ≡ get_or l j 0) → path_of l' depth ≡ path_of l depth
unfolding path_of
path_below l l' zero below = refl
path_below l l' (suc i) below =
    ap₂ ◌∷◌
    (split_of_lem l' i
    (below (split_length * i) (omega arith))
    (below (split_length * i + 1) (omega arith))
    (below (split_length * i + 2) (omega arith))
    (below (split_length * i + 3) (omega arith))
    (below (split_length * i + 4) (omega arith)))
    (path_below l l' i (λ j h. below j (omega arith)))

-- There are as many splits as are counted.
pub path-length : (l : List ℕ) (depth : ℕ) → length (path_of l depth) ≡ depth
unfolding path_of
path-length l zero = refl
path-length l (suc i) = ap suc (path-length l i)

-- ---- a push

-- Five numbers written in a row: each is read where it was written, and what stands before them is as it was.
module _ (l : List ℕ) (at n x w a b : ℕ) where
  abbrev one : List ℕ
  one = set l at n

  abbrev two : List ℕ
  two = set one (at + 1) x

  abbrev three : List ℕ
  three = set two (at + 2) w

  abbrev four : List ℕ
  four = set three (at + 3) a

  abbrev pub written : List ℕ
  written = set four (at + 4) b

  before_fifth : (j : ℕ) → j < at + 4 → get_or written j 0 ≡ get_or four j 0
  before_fifth j h = get_or-set_other four (at + 4) j b 0 (λ e. omega arith)

  before_fourth : (j : ℕ) → j < at + 3 → get_or written j 0 ≡ get_or three j 0
  before_fourth j h = before_fifth j (omega arith) ∙ get_or-set_other three (at + 3) j a 0 (λ e. omega arith)

  before_third : (j : ℕ) → j < at + 2 → get_or written j 0 ≡ get_or two j 0
  before_third j h = before_fourth j (omega arith) ∙ get_or-set_other two (at + 2) j w 0 (λ e. omega arith)

  before-second : (j : ℕ) → j < at + 1 → get_or written j 0 ≡ get_or one j 0
  before-second j h = before_third j (omega arith) ∙ get_or-set_other one (at + 1) j x 0 (λ e. omega arith)

  before_all : (j : ℕ) → j < at → get_or written j 0 ≡ get_or l j 0
  before_all j h = before-second j (omega arith) ∙ get_or-set_other l at j n 0 (λ e. omega arith)

-- Written after the first `depth` splits, with the same branch, they are a split on top of the path.
pub path_pushed : (l : List ℕ) (depth n x a b : ℕ) → split_length * depth + split_length ≤ length l
    → path_of (written l (split_length * depth) n x same_branch a b) (depth + 1)
    ≡ record { number = n; next = x; decision = same a b } ∷ path_of l depth
unfolding path_of
path_pushed l depth n x a b room =
    let at = split_length * depth in
    let w = same_branch in
    rw (add-one depth)
    (ap₂ ◌∷◌
    (split_of_lem (written l at n x w a b) depth
    (before-second l at n x w a b at (omega arith) ∙ get_or-set_same l at n 0 (omega arith))
    (before_third l at n x w a b (at + 1) (omega arith) ∙ get_or-set_same (one l at n x w a b) (at + 1) x 0 (simp length-set (omega arith)))
    (before_fourth l at n x w a b (at + 2) (omega arith) ∙ get_or-set_same (two l at n x w a b) (at + 2) w 0 (simp length-set (omega arith)))
    (before_fifth l at n x w a b (at + 3) (omega arith) ∙ get_or-set_same (three l at n x w a b) (at + 3) a 0 (simp length-set (omega arith)))
    (get_or-set_same (four l at n x w a b) (at + 4) b 0 (simp length-set (omega arith))))
    (path_below l (written l at n x w a b) depth (before_all l at n x w a b)))

-- ---- a turn

-- The definitions recurse on `suc i`, where the code has `depth` and `depth - 1`.
less_one : (i : ℕ) → suc i - 1 ≡ i
less_one i = omega arith

turned_top : (l : List ℕ) (i : ℕ) → split_length * suc i ≤ length l
    → path_of (set l (split_length * i + 2) apart_branch) (suc i) ≡ turned (split_in l i) (first_lot_in l i) (second_lot_in l i) ∷ path_of l i
unfolding path_of
turned_top l i whole =
    let at = split_length * i in
    let other : (j : ℕ) → (j ≡ at + 2 → ⊥) → get_or (set l (at + 2) apart_branch) j 0 ≡ get_or l j 0 = λ j ne. get_or-set_other l (at + 2) j apart_branch 0 ne in
    ap₂ ◌∷◌
    (split_of_lem (set l (at + 2) apart_branch) i
    (other at (λ e. omega arith))
    (other (at + 1) (λ e. omega arith))
    (get_or-set_same l (at + 2) apart_branch 0 (omega arith))
    (other (at + 3) (λ e. omega arith))
    (other (at + 4) (λ e. omega arith)))
    (path_below l (set l (at + 2) apart_branch) i (λ j h. other j (λ e. omega arith)))

-- With its branch written anew, the top split is in its apart branch, and those above it are as they were.
pub path-turned : (l : List ℕ) (depth : ℕ) → 0 < depth → split_length * depth ≤ length l
    → path_of (set l (split_length * (depth - 1) + 2) apart_branch) depth
    ≡ turned (split_in l (depth - 1)) (first_lot_in l (depth - 1)) (second_lot_in l (depth - 1)) ∷ path_of l (depth - 1)
path-turned l zero some whole = absurd (omega arith)
path-turned l (suc i) some whole = rw (less_one i) (turned_top l i whole)

-- ---- the top split

-- The path is its top split and those above it.
pub path_top : (l : List ℕ) (depth : ℕ) → 0 < depth → path_of l depth ≡ split_in l (depth - 1) ∷ path_of l (depth - 1)
unfolding path_of
path_top l zero some = absurd (omega arith)
path_top l (suc i) some = rw (less_one i) refl

-- In its same branch it is the nearest such split,
pub nearest_top : (l : List ℕ) (depth : ℕ) → 0 < depth → branch_in l (depth - 1) ≡ same_branch → nearest_as l depth ≡ nearest (path_of l depth)
unfolding path_of nearest
nearest_top l zero some e = absurd (omega arith)
nearest_top l (suc i) some e = simp (eq-eqb (branch_in l i) same_branch (ap (branch_in l) (sym (less_one i)) ∙ e))

-- and in its apart branch it is over.
pub nearest-above : (l : List ℕ) (depth : ℕ) → 0 < depth → (branch_in l (depth - 1) ≡ same_branch → ⊥)
    → nearest (path_of l depth) ≡ nearest (path_of l (depth - 1))
unfolding path_of nearest
nearest-above l zero some ne = absurd (omega arith)
nearest-above l (suc i) some ne = rw (less_one i) (simp (ne_eqb (branch_in l i) same_branch (λ e. ne (ap (branch_in l) (less_one i) ∙ e))))

-- Where no split is left there is none.
pub nearest_root : (l : List ℕ) (depth : ℕ) → depth ≤ 0 → nearest_as l depth ≡ nearest (path_of l depth)
unfolding path_of nearest
nearest_root l zero none = refl
nearest_root l (suc i) none = absurd (omega arith)

-- What is found: the top of r splits, where there is one.
pub nearest_some : (l : List ℕ) (r : ℕ) → 0 < r
    → nearest_as l r ≡ same_split (split_in l (r - 1)) (first_lot_in l (r - 1)) (second_lot_in l (r - 1)) (path_of l (r - 1))
nearest_some l zero some = absurd (omega arith)
nearest_some l (suc i) some = rw (less_one i) refl
