-- The scan over the pairs of classes, from a pair on, and a test on nodes, for the contracts of the code; this file states nothing of document 02.
use Rattle.std.specs.Prelude.{ℕ, suc, ◌-◌, ◌<◌, Bool, true, false, cond, List, Option, None, Some, ◌≡◌, eqb}
use Rattle.sheet.specs.Conditions.{Term}
use Rattle.equality.specs.Node.{Decisions, class_of, classes, no_condition, taken, Node, met, ground, split, clique}
use Rattle.limit.specs.Meaning.{Limit, unlimited, up_to}
use Rattle.limit.specs.Rule.{smallest_from, first_classes, marks_of, split_with, clique_or_split}

-- The classes from lot `from` on and below lot `end`.
abbrev pub classes_from : List ℕ → ℕ → ℕ → List ℕ
classes_from cs end from = smallest_from cs (end - from) from

-- The classes of lots 0 to n.
abbrev pub classes_up_to : List ℕ → ℕ → List ℕ
classes_up_to cs n = smallest_from cs (suc n) 0

-- The node is a clique.
abbrev pub is_clique : Node → Bool
is_clique met = false
is_clique (ground c) = false
is_clique (split x y) = false
is_clique clique = true

-- The scan from lots x and y on: where x is the smallest lot of its class, the pairs of that class with those from y on; then those of the classes after x.
abbrev pub pairs_at : (ℕ → ℕ → Bool) → List ℕ → ℕ → ℕ → ℕ → Node
pairs_at marks cs end x y =
    let others = clique_or_split marks (classes_from cs end (suc x)) in cond (eqb (class_of cs x) x) (split_with marks x (classes_from cs end y) others) others

-- The pairs of the g + 1 classes with the smallest lots may be looked at from lots x and y on: no pair before those is unmarked. (Lot `end` is any behind these
-- classes.)
abbrev pub ScanFrom : ℕ → ℕ → ℕ → ℕ → Decisions → Type 0
ScanFrom g n x y ds =
    (end : ℕ) → first_classes g n ds ≡ smallest_from (classes ds) end 0
    → clique_or_split (marks_of ds) (first_classes g n ds) ≡ pairs_at (marks_of ds) (classes ds) end x y

-- A node under the limit g may be looked at after the pair x and y: it takes no condition, and no pair up to that one is unmarked.
pub record ResumesAfter (g n : ℕ) (tss : List (List Term)) (x y : ℕ) (ds : Decisions) : Type 0 where
  pub none : taken ds 1 tss ≡ no_condition
  pub rises : x < y
  pub pairs : ScanFrom g n x (suc y) ds

-- The limit that is asked for, or that there is none.
abbrev pub limit_in : Option ℕ → Limit
limit_in None = unlimited
limit_in (Some g) = up_to g
