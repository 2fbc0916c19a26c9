-- What each kind of node under a limit says.
use Prim.Native.Nat.{ℕ, suc, ◌≤◌, ◌<◌}
use mathlib.Core.Bool.{Bool, true, false, cond}
use mathlib.Core.List.{List, [], ◌∷◌}
use mathlib.Core.Path.{◌≡◌, refl}
use borrow.Author.Tests.{leb-true, leb-false}
use lib.Dec.{leb}
use lib.ListN.{length}
use Rattle.sheet.specs.Conditions.{Term}
use Rattle.buffers.specs.Lists.{All}
use Rattle.equality.specs.Node.{Decisions, smallest_lot, Taken, no_condition, takes, taken, Node, met, ground, split, clique, ground_or_split, node_of, node}
use Rattle.equality.proofs.Rule.{taken-node}
use Rattle.limit.specs.Meaning.{up_to}
use Rattle.limit.specs.Rule.{classes_left, first_classes, marks_of, split_with, clique_or_split, none_taken, node_under}
use Rattle.limit.proofs.Among.{Pairwise, pairwise_take, pairwise_with}
use Rattle.limit.proofs.Left.{left_all, left_rising}
use Rattle.limit.proofs.Clique.{AllMarked}

-- ---- the first pair not marked apart

-- What holds of a split on any pair that is not marked, and of a clique where all pairs are, holds of what the scan finds. R is known of each pair.
module _ (marks : ℕ → ℕ → Bool) (R : ℕ → ℕ → Type 0) (P : Node → Type 0) (splits : (x y : ℕ) → R x y → marks x y ≡ false → P (split x y)) where
  with_scan : (x : ℕ) (ys : List ℕ) (others : Node) → All (R x) ys → (All (λ y. marks x y ≡ true) ys → P others) → P (split_with marks x ys others)
  unfolding split_with
  with_scan x [] others pairs rest = rest tt
  with_scan x (y ∷ ys) others pairs rest = go (marks x y) refl (λ later. with_scan x ys others pairs.1 later)
    where
      go : (p : Bool) → marks x y ≡ p → ((All (λ y. marks x y ≡ true) ys → P others) → P (split_with marks x ys others))
          → P (cond p (split_with marks x ys others) (split x y))
      go true q later = later (λ all. rest (q, all))
      go false q later = splits x y pairs.0 q

  pub scan : (xs : List ℕ) → Pairwise R xs → (Pairwise (λ x y. marks x y ≡ true) xs → P clique) → P (clique_or_split marks xs)
  unfolding clique_or_split
  scan [] pairs none = none tt
  scan (x ∷ xs) pairs none =
      with_scan x xs (clique_or_split marks xs) pairs.0 (λ all. scan xs pairs.1 (λ rest. none (all, rest)))

-- ---- the kinds

-- A lot of 0 to n that is the smallest of its class.
abbrev pub Smallest : ℕ → Decisions → ℕ → Type 0
Smallest n ds lot = (lot ≤ n) × (smallest_lot ds lot ≡ lot)

-- By the conditions, as without a limit: a ground, or a split on a term. By the limit: met, a split on a pair of classes, a clique.
pub data Kind (g n : ℕ) (tss : List (List Term)) (ds : Decisions) : Node → Type 0 where
  is_ground : {c : ℕ} → node ds tss ≡ ground c → Kind g n tss ds (ground c)
  is_term : {a b : ℕ} → node ds tss ≡ split a b → Kind g n tss ds (split a b)
  is_met_lem : taken ds 1 tss ≡ no_condition → length (classes_left n ds) ≤ g → Kind g n tss ds met
  is_pair : {x y : ℕ} → taken ds 1 tss ≡ no_condition → g < length (classes_left n ds)
      → Smallest n ds x → Smallest n ds y → x < y → marks_of ds x y ≡ false → Kind g n tss ds (split x y)
  is_clique_lem : taken ds 1 tss ≡ no_condition → g < length (classes_left n ds) → AllMarked ds (first_classes g n ds) → Kind g n tss ds clique

module _ (g n : ℕ) (tss : List (List Term)) (ds : Decisions) where
  -- The first classes are smallest lots, rising.
  first-pairs : Pairwise (λ x y. Smallest n ds x × Smallest n ds y × (x < y)) (first_classes g n ds)
  first-pairs =
      pairwise_take (λ x y. Smallest n ds x × Smallest n ds y × (x < y)) (suc g) (classes_left n ds)
      (pairwise_with (λ x y. x < y) (Smallest n ds) (classes_left n ds) (left_rising n ds) (left_all n ds (Smallest n ds) (λ lot h e. (h, e))))

  by_limit : taken ds 1 tss ≡ no_condition → Kind g n tss ds (none_taken (up_to g) n ds)
  unfolding none_taken
  by_limit none = go (leb (length (classes_left n ds)) g) refl
    where
      go : (p : Bool) → leb (length (classes_left n ds)) g ≡ p → Kind g n tss ds (cond p met (clique_or_split (marks_of ds) (first_classes g n ds)))
      go true q = is_met_lem none (leb-true (length (classes_left n ds)) g q)
      go false q =
          let more = leb-false (length (classes_left n ds)) g q in
          scan (marks_of ds) (λ x y. Smallest n ds x × Smallest n ds y × (x < y)) (Kind g n tss ds)
          (λ x y r m. is_pair none more r.0 r.1 r.2 m)
          (first_classes g n ds)
          first-pairs
          (λ all. is_clique_lem none more all)

  -- The node of a condition that is taken is the one that it is without a limit.
  by_condition : (c : ℕ) (ts : List Term) → node ds tss ≡ ground_or_split ds c ts → Kind g n tss ds (ground_or_split ds c ts)
  by_condition c ts e = taken-node (λ r. node ds tss ≡ r → Kind g n tss ds r) ds c (λ q. is_ground q) (λ a b q. is_term q) ts e

  kind : Kind g n tss ds (node_under (up_to g) n tss ds)
  unfolding node_under node
  kind = go (taken ds 1 tss) refl
    where
      go : (w : Taken) → taken ds 1 tss ≡ w → Kind g n tss ds (node_of (none_taken (up_to g) n ds) ds w)
      go no_condition q = by_limit q
      go (takes c ts) q = by_condition c ts (rw q)

  pub kind_of_lem : (r : Node) → node_under (up_to g) n tss ds ≡ r → Kind g n tss ds r
  kind_of_lem r e = rw e at kind
