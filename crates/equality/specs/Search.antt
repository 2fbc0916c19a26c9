-- The nodes that the search visits (document 01, "One node of the search", from "The search starts" on), without regard to any store.
use Rattle.std.specs.Prelude.{ℕ, zero, suc, ◌+◌, ◌*◌, max, Bool, true, false, List, [], ◌∷◌, take, drop}
use Rattle.sheet.specs.Conditions.{Term, same, apart}
use Rattle.equality.specs.Node.{Decisions, classes, Node, met, ground, split, clique, node}

-- The nodes visited: a met node with its decisions; a ground with its condition; a clique; a split whose same branch met something, so that its
-- apart branch is never visited; a split with both branches.
pub data Tree : Type 0 where
  met_leaf : Decisions → Tree
  ground_leaf : ℕ → Tree
  clique_leaf : Tree
  one_branch : ℕ → ℕ → Tree → Tree
  two_branches : ℕ → ℕ → Tree → Tree → Tree

-- "stops at the first met node": whether the tree has one. Where both branches were visited, the same branch has none.
unfoldable pub is_met : Tree → Bool
is_met (met_leaf ds) = true
is_met (ground_leaf c) = false
is_met clique_leaf = false
is_met (one_branch a b t) = is_met t
is_met (two_branches a b t u) = is_met u

-- `visit_branch` is the visit of a branch from its decisions on: the recursive call, which has to be on one fuel.

-- "the pair set same is tried first, then, if nothing was met there, the pair set apart": after the visit of the same branch (document 01: the
-- equal branch), t, by whether that has a met node. The other is the apart branch (the different branch).
unfoldable pub after_same : (Decisions → Tree) → Decisions → ℕ → ℕ → Tree → Bool → Tree
after_same visit_branch ds a b t true = one_branch a b t
after_same visit_branch ds a b t false = two_branches a b t (visit_branch (apart a b ∷ ds))

unfoldable pub visit_node : (Decisions → Tree) → Decisions → Node → Tree
visit_node visit_branch ds met = met_leaf ds
visit_node visit_branch ds (ground c) = ground_leaf c
visit_node visit_branch ds (split a b) =
    let t = visit_branch (same a b ∷ ds) in after_same visit_branch ds a b t (is_met t)
visit_node visit_branch ds clique = clique_leaf

-- The visit of the node of these decisions, by a rule that says what the node is. Fuel that is above a measure which falls at each split never decides
-- (`fuel_never_decides`). By document 01's rule "No path has more splits than the sheet has "same" terms.", so any fuel above those is enough (`search_fuel`).
unfoldable pub visit : (Decisions → Node) → ℕ → Decisions → Tree
visit rule zero ds = ground_leaf 0
visit rule (suc fuel) ds = visit_node (visit rule fuel) ds (rule ds)

-- The rule of document 01, over these conditions.
abbrev pub node_rule : List (List Term) → Decisions → Node
node_rule tss ds = node ds tss

-- The "same" terms of a condition, and of all.
unfoldable pub same_terms : List Term → ℕ
same_terms [] = 0
same_terms (same a b ∷ ts) = suc (same_terms ts)
same_terms (apart a b ∷ ts) = same_terms ts

unfoldable pub all_same_terms : List (List Term) → ℕ
all_same_terms [] = 0
all_same_terms (ts ∷ tss) = same_terms ts + all_same_terms tss

-- "The search starts with no decisions".
unfoldable pub search_tree : List (List Term) → Tree
search_tree tss = visit (node_rule tss) (suc (all_same_terms tss)) []

-- How many nodes are visited.
unfoldable pub node_count : Tree → ℕ
node_count (met_leaf ds) = 1
node_count (ground_leaf c) = 1
node_count clique_leaf = 1
node_count (one_branch a b t) = 1 + node_count t
node_count (two_branches a b t u) = 1 + (node_count t + node_count u)

-- The most splits on a path.
unfoldable pub depth : Tree → ℕ
depth (met_leaf ds) = 0
depth (ground_leaf c) = 0
depth clique_leaf = 0
depth (one_branch a b t) = suc (depth t)
depth (two_branches a b t u) = suc (max (depth t) (depth u))

-- The decisions of the met node; none where there is no met node.
unfoldable pub met_decisions : Tree → Decisions
met_decisions (met_leaf ds) = ds
met_decisions (ground_leaf c) = []
met_decisions clique_leaf = []
met_decisions (one_branch a b t) = met_decisions t
met_decisions (two_branches a b t u) = met_decisions u

-- "Each lot's byte in the grouping is the smallest lot of its consignment.": the bytes of lots 1 to n.
unfoldable pub grouping_bytes : ℕ → Decisions → List ℕ
grouping_bytes n ds = take n (drop 1 (classes ds))

-- P, by which the nodes are bounded: the product over the conditions of one plus the number of their "same" terms.
unfoldable pub branching : List (List Term) → ℕ
branching [] = 1
branching (ts ∷ tss) = suc (same_terms ts) * branching tss
