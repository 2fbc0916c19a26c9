-- What a limit makes of a node that takes no condition, by the first classes of its map and a table of its marks.
use Prim.Native.Nat.{ℕ, suc, ◌≤◌, ◌<◌}
use mathlib.Core.Bool.{Bool}
use mathlib.Core.List.{List}
use mathlib.Core.Path.{◌≡◌, sym, ap, ◌∙◌}
use native.Mathlib.Omega.{arith}
use borrow.Author.Tests.{le-leb}
use lib.ListN.{length, take}
use Rattle.sheet.specs.Format.{most_lots}
use Rattle.equality.specs.Node.{Decisions, classes, marked, met}
use Rattle.limit.specs.Meaning.{up_to}
use Rattle.limit.specs.Rule.{smallest_from, classes_left, first_classes, marks_of, none_taken}
use Rattle.limit.specs.Scan.{classes_up_to, pairs_at, ScanFrom}
use Rattle.limit.proofs.Scan.{few-left, more_left, pairs_agree}
use Rattle.limit.proofs.Resumes.{none_more}

module _ (cs : List ℕ) (ds : Decisions) (says : cs ≡ classes ds) (g n end : ℕ) (first : take (suc g) (classes_up_to cs n) ≡ smallest_from cs end 0) where
  first_of : first_classes g n ds ≡ smallest_from (classes ds) end 0
  unfolding classes_left
  first_of = rw says at first

  -- No more than the limit: the node is met.
  pub few-met : length (smallest_from cs end 0) ≤ g → met ≡ none_taken (up_to g) n ds
  unfolding none_taken
  few-met few = rw (le-leb (length (classes_left n ds)) g (few-left g n end ds first_of (rw says at few)))

  -- More: it is what the scan finds, by any marks that are the path's.
  pub scan_node : g < length (smallest_from cs end 0) → end ≤ suc most_lots → (marks : ℕ → ℕ → Bool)
      → ((u v : ℕ) → u < v → v ≤ most_lots → marks u v ≡ marked cs ds u v) → (x y : ℕ) → x < y → ScanFrom g n x y ds
      → pairs_at marks cs end x y ≡ none_taken (up_to g) n ds
  scan_node more high marks same-marks x y rises from =
      pairs_agree marks (marks_of ds) cs end x y rises (λ u v h k. same-marks u v h (omega arith) ∙ ap (λ (l : List ℕ). marked l ds u v) says)
      ∙ ap (λ (l : List ℕ). pairs_at (marks_of ds) l end x y) says
      ∙ sym (from end first_of)
      ∙ sym (none_more g n ds (more_left g n end ds first_of (rw says at more)))
