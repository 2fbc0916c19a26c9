-- One node of the search, with a limit on the classes of lots 0 to n or without one (document 02, job 7).
use Rattle.std.specs.Prelude.{ℕ, zero, suc, Bool, true, cond, ◌&&◌, List, [], ◌∷◌, leb, ltb, eqb, length, take}
use Rattle.sheet.specs.Conditions.{Term}
use Rattle.equality.specs.Node.{Decisions, class_of, classes, marked, taken, Node, met, split, clique, node_of}
use Rattle.limit.specs.Meaning.{Limit, unlimited, up_to}

-- ---- the classes left

-- The classes of `count` lots, from lot `from` on, that have no smaller lot: each by its smallest lot, rising.
unfoldable pub smallest_from : List ℕ → ℕ → ℕ → List ℕ
smallest_from cs zero from = []
smallest_from cs (suc count) from =
    let rest = smallest_from cs count (suc from) in cond (eqb (class_of cs from) from) (from ∷ rest) rest

-- The classes left of lots 0 to n; "the hold's consignment always counts as one", since lot 0 is one of these lots.
unfoldable pub classes_left : ℕ → Decisions → List ℕ
classes_left n ds = smallest_from (classes ds) (suc n) 0

-- "the g + 1 consignments with the smallest lots"
abbrev pub first_classes : ℕ → ℕ → Decisions → List ℕ
first_classes g n ds = take (suc g) (classes_left n ds)

-- Which two classes are marked apart under the decisions.
abbrev pub marks_of : Decisions → ℕ → ℕ → Bool
marks_of ds x y = marked (classes ds) ds x y

-- ---- a pair of classes

module _ (marks : ℕ → ℕ → Bool) where
  -- "split on their first pair not marked apart, by lower then higher smallest lot, recorded in that order": the pairs of class x with those that follow it,
  -- and then the others.
  unfoldable pub split_with : ℕ → List ℕ → Node → Node
  split_with x [] others = others
  split_with x (y ∷ ys) others = let later = split_with x ys others in cond (marks x y) later (split x y)

  -- "If all are marked, the node is a crowd"
  unfoldable pub clique_or_split : List ℕ → Node
  clique_or_split [] = clique
  clique_or_split (x ∷ xs) = split_with x xs (clique_or_split xs)

-- ---- what the node is

-- A node that takes no condition. Without a limit it is met. "When no condition is taken and at most g consignments are left, the node is met. With more, take
-- the g + 1 consignments with the smallest lots and split on their first pair not marked apart"
unfoldable pub none_taken : Limit → ℕ → Decisions → Node
none_taken unlimited n ds = met
none_taken (up_to g) n ds =
    let more = clique_or_split (marks_of ds) (first_classes g n ds) in cond (leb (length (classes_left n ds)) g) met more

-- The node of these decisions, over these conditions, of lots 0 to n. The conditions come first.
unfoldable pub node_under : Limit → ℕ → List (List Term) → Decisions → Node
node_under limit n tss ds = node_of (none_taken limit n ds) ds (taken ds 1 tss)

-- ---- a clique in a list from any hand

module _ (marks : ℕ → ℕ → Bool) where
  unfoldable pub marked_with : ℕ → List ℕ → Bool
  marked_with x [] = true
  marked_with x (y ∷ ys) = marks x y && marked_with x ys

  -- "all marked apart pairwise"
  unfoldable pub all_marked : List ℕ → Bool
  all_marked [] = true
  all_marked (x ∷ xs) = marked_with x xs && all_marked xs

-- "The checker, given a cap, passes a crowd exactly when more than g consignments are left and the g + 1 with the smallest lots are all marked apart pairwise"
unfoldable pub clique_passes : ℕ → ℕ → Decisions → Bool
clique_passes g n ds = ltb g (length (classes_left n ds)) && all_marked (marks_of ds) (first_classes g n ds)
