-- A loop over the pairs, from the latest on: what the latest of those left says of the marks.
use Prim.Native.Nat.{ℕ, zero, suc, ◌+◌, ◌*◌, ◌-◌, ◌≤◌, ◌<◌}
use mathlib.Core.Bool.{Bool, true, false, ◌||◌}
use mathlib.Core.List.{List}
use mathlib.Core.Path.{◌≡◌, refl, ◌∙◌}
use native.Mathlib.Omega.{arith}
use lib.Bits.{bit_xor}
use lib.ListN.{get_or}
use Rattle.equality.specs.Node.{class_of, between, marked}
use Rattle.classes.specs.Pairs.{set_apart}
use Rattle.classes.proofs.Exclusive.{neither_way}

module _ (cs pairs : List ℕ) (x y : ℕ) where
  -- One of the lots of pair n is in class x, and one in class y.
  abbrev pub between_pair : ℕ → Bool
  between_pair n = between cs x y (get_or pairs (2 * n) 0) (get_or pairs (2 * n + 1) 0)

  abbrev pub marked_by : ℕ → Bool
  marked_by count = marked cs (set_apart pairs count) x y

  latest : (left : ℕ) → 0 < left → marked_by left ≡ (between_pair (left - 1) || marked_by (left - 1))
  unfolding set_apart marked
  latest zero h = absurd (omega arith)
  latest (suc n) h = let e : suc n - 1 ≡ n = omega arith in rw e

  -- The latest pair marks, or it does not, or none is left.
  pub found : (left : ℕ) → 0 < left → between_pair (left - 1) ≡ true → marked_by left ≡ true
  found left h e = latest left h ∙ rw e

  pub passed : (left : ℕ) → 0 < left → between_pair (left - 1) ≡ false → marked_by left ≡ marked_by (left - 1)
  passed left h e = latest left h ∙ rw e

  -- It doesn't where the classes of its lots have another exclusive or than x and y.
  pub passed_by_xor : (left : ℕ) → 0 < left
      → (bit_xor (class_of cs (get_or pairs (2 * (left - 1)) 0)) (class_of cs (get_or pairs (2 * (left - 1) + 1) 0)) ≡ bit_xor x y → ⊥)
      → marked_by left ≡ marked_by (left - 1)
  passed_by_xor left h other = passed left h (neither_way x y (class_of cs (get_or pairs (2 * (left - 1)) 0)) (class_of cs (get_or pairs (2 * (left - 1) + 1) 0)) other)

  pub none_left_lem : (left : ℕ) → left ≤ 0 → marked_by left ≡ false
  unfolding set_apart marked
  none_left_lem zero h = refl
  none_left_lem (suc n) h = absurd (omega arith)
