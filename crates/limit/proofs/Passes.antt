-- A clique that the checker passes: no assignment that respects the path above it has at most g different values on lots 0 to n; a clique node of the search is
-- such a one; and it passes under every smaller limit.
use Prim.Native.Nat.{ℕ, suc, ◌≤◌, ◌<◌}
use mathlib.Core.Bool.{Bool, true, ◌&&◌}
use mathlib.Core.List.{List, [], ◌∷◌}
use mathlib.Core.Path.{◌≡◌, refl}
use native.Mathlib.Omega.{arith}
use borrow.Author.Tests.{ltb-true, lt-ltb}
use lib.Dec.{ltb}
use lib.ListN.{length}
use Rattle.sheet.specs.Conditions.{Term}
use Rattle.buffers.specs.Lists.{All}
use Rattle.equality.specs.Node.{Decisions, Respects, clique}
use Rattle.equality.proofs.Meaning.{Decides}
use Rattle.equality.proofs.Tests.{and_true_both}
use Rattle.equality.specs.Opens.{Small}
use Rattle.limit.specs.Meaning.{up_to, AtMost}
use Rattle.limit.specs.Rule.{classes_left, first_classes, marks_of, node_under, marked_with, all_marked, clique_passes}
use Rattle.limit.proofs.Among.{Pairwise, pairwise_shorter}
use Rattle.limit.proofs.Clique.{AllMarked, clique_excludes}
use Rattle.limit.proofs.NodeKinds.{Kind, is_clique_lem, kind_of_lem}

both_true : {p q : Bool} → p ≡ true → q ≡ true → (p && q) ≡ true
both_true ep eq = rw (ep, eq)

module _ (marks : ℕ → ℕ → Bool) where
  with_decides : (x : ℕ) (ys : List ℕ) → Decides (marked_with marks x ys) (All (λ y. marks x y ≡ true) ys)
  unfolding marked_with
  with_decides x [] = (λ _. tt, λ _. refl)
  with_decides x (y ∷ ys) = (
    (λ e. let both = and_true_both (marks x y) (marked_with marks x ys) e in (both.0, (with_decides x ys).0 both.1)),
    (λ h. both_true h.0 ((with_decides x ys).1 h.1)),
  )

  pub marked_decides : (xs : List ℕ) → Decides (all_marked marks xs) (Pairwise (λ x y. marks x y ≡ true) xs)
  unfolding all_marked
  marked_decides [] = (λ _. tt, λ _. refl)
  marked_decides (x ∷ xs) = (
    (λ e.
        let both = and_true_both (marked_with marks x xs) (all_marked marks xs) e in
        ((with_decides x xs).0 both.0, (marked_decides xs).0 both.1)),
    (λ h. both_true ((with_decides x xs).1 h.0) ((marked_decides xs).1 h.1)),
  )

module _ (ds : Decisions) where
  pub passes_decides : (g n : ℕ) → Decides (clique_passes g n ds) ((g < length (classes_left n ds)) × AllMarked ds (first_classes g n ds))
  unfolding clique_passes
  passes_decides g n = (
    (λ e.
        let both = and_true_both (ltb g (length (classes_left n ds))) (all_marked (marks_of ds) (first_classes g n ds)) e in
        (ltb-true g (length (classes_left n ds)) both.0, (marked_decides (marks_of ds) (first_classes g n ds)).0 both.1)),
    (λ h. both_true (lt-ltb g (length (classes_left n ds)) h.0) ((marked_decides (marks_of ds) (first_classes g n ds)).1 h.1)),
  )

  -- Under any path, of the search or from any hand.
  pub passes_sound : (g n : ℕ) → clique_passes g n ds ≡ true → {A : Type 0} (f : ℕ → A) → All Small ds → Respects f ds → ¬ AtMost A g n f
  passes_sound g n e f small respects = let both = (passes_decides g n).0 e in clique_excludes f ds small respects g n both.0 both.1

  -- A clique of the search passes.
  pub own_passes : (g n : ℕ) (tss : List (List Term)) → node_under (up_to g) n tss ds ≡ clique → clique_passes g n ds ≡ true
  own_passes g n tss e = go (kind_of_lem g n tss ds clique e)
    where
      go : Kind g n tss ds clique → clique_passes g n ds ≡ true
      go (is_clique_lem none more all) = (passes_decides g n).1 (more, all)

  -- What passes under a limit passes under every smaller one.
  pub passes_smaller : (g g' n : ℕ) → g' ≤ g → clique_passes g n ds ≡ true → clique_passes g' n ds ≡ true
  passes_smaller g g' n h e =
      let both = (passes_decides g n).0 e in
      (passes_decides g' n).1 (
        omega (arith, both.0),
        pairwise_shorter (λ x y. marks_of ds x y ≡ true) (suc g') (suc g) (omega arith) (classes_left n ds) both.1,
      )
