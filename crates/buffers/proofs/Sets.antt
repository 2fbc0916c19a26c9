-- Runs of stores: one after another, one before another, one over another.
use Prim.Native.Nat.{ℕ, suc, ◌+◌, ◌≤◌, ◌<◌}
use mathlib.Core.List.{List, [], ◌∷◌, ◌++◌}
use mathlib.Core.Path.{◌≡◌, refl, sym, ap, ◌∙◌}
use native.Mathlib.Nat.{add-zero, add-suc, suc-add}
use native.Mathlib.Omega.{arith}
use lib.ListN.{length, set}
use lib.Seq.{sets, set-set, set_comm}

-- A run of stores, then another from where it ended.
pub sets-sets : (xs ys l : List ℕ) (i : ℕ) → sets (sets l i xs) (i + length xs) ys ≡ sets l i (xs ++ ys)
sets-sets [] ys l i = rw add-zero
sets-sets (x ∷ xs) ys l i = rw (add-suc i (length xs), ← suc-add i (length xs)) (sets-sets xs ys (set l i x) (suc i))

-- A store before a run may come after it.
set-sets : (ys l : List ℕ) (i j x : ℕ) → i < j → set (sets l j ys) i x ≡ sets (set l i x) j ys
set-sets [] l i j x h = refl
set-sets (y ∷ ys) l i j x h =
    set-sets ys (set l j y) i (suc j) x (omega arith) ∙ rw (set_comm l j i y x (λ e. omega arith))

-- A run before another may come after it.
pub sets-before : (xs ys l : List ℕ) (i j : ℕ) → i + length xs ≤ j → sets (sets l j ys) i xs ≡ sets (sets l i xs) j ys
sets-before [] ys l i j h = refl
sets-before (x ∷ xs) ys l i j h =
    rw (set-sets ys l i j x (omega arith)) (sets-before xs ys (set l i x) (suc i) j (omega arith))

-- A run of stores over another of the same length.
pub sets-again : (xs ys l : List ℕ) (i : ℕ) → length xs ≡ length ys → sets (sets l i xs) i ys ≡ sets l i ys
sets-again [] [] l i h = refl
sets-again [] (y ∷ ys) l i h = absurd (omega arith)
sets-again (x ∷ xs) [] l i h = absurd (omega arith)
sets-again (x ∷ xs) (y ∷ ys) l i h =
    rw (set-sets xs (set l i x) i (suc i) y (omega arith), set-set l i x y) (sets-again xs ys (set l i y) (suc i) (omega arith))

-- The end of a run written anew: what stands before it stays.
pub sets_end : (front old new l : List ℕ) (i : ℕ) → length old ≡ length new → sets (sets l i (front ++ old)) (i + length front) new ≡ sets l i (front ++ new)
sets_end front old new l i h =
    ap (λ (s : List ℕ). sets s (i + length front) new) (sym (sets-sets front old l i))
    ∙ sets-again old new (sets l i front) (i + length front) h
    ∙ sets-sets front new l i
