-- A clique passes by what is found of the classes of its path: the first of them, and their first pair that isn't marked apart.
use Prim.Native.Nat.{ℕ, suc, ◌-◌, ◌≤◌, ◌<◌}
use mathlib.Core.Bool.{Bool, true, false, ◌&&◌}
use mathlib.Core.List.{List}
use mathlib.Core.Path.{◌≡◌, sym, ap, ◌∙◌}
use native.Mathlib.Omega.{arith}
use borrow.Author.Tests.{lt-ltb, le-ltb}
use lib.Dec.{ltb}
use lib.ListN.{length}
use Rattle.sheet.specs.Format.{most_lots}
use Rattle.equality.specs.Node.{Decisions, classes}
use Rattle.limit.specs.Rule.{smallest_from, classes_left, first_classes, marks_of, all_marked, clique_passes}
use Rattle.limit.specs.Scan.{classes_from, is_clique, pairs_at}
use Rattle.limit.proofs.Scan.{few-left, more_left, pairs_start, pairs_agree, all_marked_lem}
use Rattle.marks.specs.Marks.{Marks, mark_at}
use Rattle.marks.proofs.Marks.{marks_at}

module _ (ds : Decisions) (g n end : ℕ) (first : first_classes g n ds ≡ smallest_from (classes ds) end 0) where
  -- At most g of them are no clique.
  pub few-classes : length (smallest_from (classes ds) end 0) ≤ g → clique_passes g n ds ≡ false
  unfolding clique_passes
  few-classes h = rw (le-ltb g (length (classes_left n ds)) (few-left g n end ds first h))

  -- Of more, the scan over their pairs by a table with the path's marks decides.
  pub pairs_decide : g < length (smallest_from (classes ds) end 0) → end ≤ suc most_lots → {table : List ℕ} → Marks table 0 (classes ds) ds
      → is_clique (pairs_at (mark_at table 0) (classes ds) end 0 1) ≡ clique_passes g n ds
  unfolding clique_passes
  pairs_decide h within {table} marks =
      let all : end - 0 ≡ end = omega arith in
      ap is_clique (pairs_agree (mark_at table 0) (marks_of ds) (classes ds) end 0 1 (omega arith) agrees)
      ∙ ap is_clique (pairs_start (classes ds) (marks_of ds) end 0)
      ∙ all_marked_lem (marks_of ds) (classes_from (classes ds) end 0)
      ∙ ap (λ (k : ℕ). all_marked (marks_of ds) (smallest_from (classes ds) k 0)) all
      ∙ ap (all_marked (marks_of ds)) (sym first)
      ∙ ap (λ (p : Bool). p && all_marked (marks_of ds) (first_classes g n ds)) (sym more)
    where
      agrees : (u v : ℕ) → u < v → v < end → mark_at table 0 u v ≡ marks_of ds u v
      agrees u v low high = marks_at marks u v (omega arith) (omega arith) (λ e. omega arith)

      more : ltb g (length (classes_left n ds)) ≡ true
      more = lt-ltb g (length (classes_left n ds)) (more_left g n end ds first h)
