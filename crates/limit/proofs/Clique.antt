-- A clique: where the g + 1 classes with the smallest lots are pairwise marked apart, no assignment that respects the decisions has at most g
-- different values on lots 0 to n.
use Prim.Native.Nat.{ℕ, suc, ◌≤◌, ◌<◌}
use mathlib.Core.Bool.{true}
use mathlib.Core.List.{List, [], ◌∷◌}
use mathlib.Core.Logic.{◌≢◌}
use mathlib.Core.Path.{◌≡◌}
use native.Mathlib.Omega.{arith}
use lib.ListN.{length, length-take}
use Rattle.buffers.specs.Lists.{All}
use Rattle.equality.specs.Node.{Decisions, Respects, classes}
use Rattle.equality.specs.Opens.{Small}
use Rattle.equality.proofs.Classes.{class_value, marked_differ}
use Rattle.limit.specs.Meaning.{Among, AtMost}
use Rattle.limit.specs.Rule.{classes_left, first_classes, marks_of}
use Rattle.limit.proofs.Among.{Pairwise, all_take, pairwise_map, pigeonhole}
use Rattle.limit.proofs.Left.{left_all}

-- The classes are pairwise marked apart.
abbrev pub AllMarked : Decisions → List ℕ → Type 0
AllMarked ds xs = Pairwise (λ x y. marks_of ds x y ≡ true) xs

module _ {A : Type 0} (f : ℕ → A) (ds : Decisions) (small : All Small ds) (respects : Respects f ds) where
  pub marked-values : (x y : ℕ) → marks_of ds x y ≡ true → f x ≢ f y
  marked-values x y e = marked_differ f (classes ds) (class_value f ds small respects) ds small respects x y e

  -- Any lots of 0 to n, more than g, that are pairwise marked apart.
  pub marked_more : (g n : ℕ) (xs : List ℕ) → All (λ lot. lot ≤ n) xs → AllMarked ds xs → g < length xs → ¬ AtMost A g n f
  marked_more g n xs within all more most =
      omega (arith, most.few, pigeonhole f xs most.values (pairwise_map marked-values xs all) (stand xs within))
    where
      stand : (xs : List ℕ) → All (λ lot. lot ≤ n) xs → All (λ lot. Among (f lot) most.values) xs
      stand [] within = tt
      stand (x ∷ xs) within = (most.has x within.0, stand xs within.1)

  -- The g + 1 classes with the smallest lots.
  pub clique_excludes : (g n : ℕ) → g < length (classes_left n ds) → AllMarked ds (first_classes g n ds) → ¬ AtMost A g n f
  clique_excludes g n more all =
      marked_more g n (first_classes g n ds)
      (all_take (λ lot. lot ≤ n) (suc g) (classes_left n ds) (left_all n ds (λ lot. lot ≤ n) (λ lot h e. h)))
      all
      (omega (arith, length-take (suc g) (classes_left n ds)))
