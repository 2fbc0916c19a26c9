-- Trees under a limit, by computation.
use Rattle.std.specs.Prelude.{true, false, List, [], ◌∷◌, ◌≡◌, refl}
use Rattle.sheet.specs.Conditions.{Term, same, apart, count_up}
use Rattle.equality.specs.Meaning.{any_term, some_term}
use Rattle.equality.specs.Node.{merged, classes, smallest_lot, marked, value, taken, ground_or_split}
use Rattle.equality.specs.Search.{met_leaf, ground_leaf, clique_leaf, one_branch, two_branches, is_met, after_same, visit_node, visit, node_count, met_decisions}
use Rattle.limit.specs.Meaning.{among, once, different_by, different}
use Rattle.limit.specs.Rule.{smallest_from, classes_left, split_with, clique_or_split, none_taken, node_under, marked_with, all_marked, clique_passes}
use Rattle.limit.specs.Search.{limited_tree}

-- Three lots that are all different.
abbrev pub conditions_clique : List (List Term)
conditions_clique = (apart 0 1 ∷ []) ∷ (apart 0 2 ∷ []) ∷ (apart 1 2 ∷ []) ∷ []

-- Document 01's C: same 1 2 or same 1 3; apart 1 2.
abbrev pub conditions_c : List (List Term)
conditions_c = (same 1 2 ∷ same 1 3 ∷ []) ∷ (apart 1 2 ∷ []) ∷ []

-- A split on a condition whose first lot is the larger, and splits by the limit below it.
abbrev pub conditions_reversed : List (List Term)
conditions_reversed = (same 3 1 ∷ same 1 3 ∷ []) ∷ (apart 1 2 ∷ []) ∷ []

-- A square: 1 and 2, 3 and 4, 1 and 3, 2 and 4 differ.
abbrev pub conditions_square : List (List Term)
conditions_square = (apart 1 2 ∷ []) ∷ (apart 3 4 ∷ []) ∷ (apart 1 3 ∷ []) ∷ (apart 2 4 ∷ []) ∷ []

-- apart 1 2; apart 1 3 or same 2 3.
abbrev pub conditions_pair : List (List Term)
conditions_pair = (apart 1 2 ∷ []) ∷ (apart 1 3 ∷ same 2 3 ∷ []) ∷ []

-- apart 0 1; apart 0 2.
abbrev pub conditions_star : List (List Term)
conditions_star = (apart 0 1 ∷ []) ∷ (apart 0 2 ∷ []) ∷ []

-- Each with the tree that is visited: free lots with limits 1 and 2, the clique with limits 1, 2 and 3, and others. In the last, four classes are looked at,
-- and 0 and 3 come before 1 and 2.
pub trees :
    limited_tree 1 1 []
    ∷ limited_tree 1 2 []
    ∷ limited_tree 2 2 []
    ∷ limited_tree 1 2 conditions_clique
    ∷ limited_tree 2 2 conditions_clique
    ∷ limited_tree 3 2 conditions_clique
    ∷ limited_tree 2 3 conditions_c
    ∷ limited_tree 1 3 conditions_c
    ∷ limited_tree 1 3 conditions_reversed
    ∷ limited_tree 2 4 conditions_square
    ∷ limited_tree 2 3 conditions_pair
    ∷ limited_tree 3 3 conditions_star
    ∷ []
    ≡ one_branch 0 1 (met_leaf (same 0 1 ∷ []))
    ∷ one_branch 0 1 (one_branch 0 2 (met_leaf (same 0 2 ∷ same 0 1 ∷ [])))
    ∷ one_branch 0 1 (met_leaf (same 0 1 ∷ []))
    ∷ two_branches 0 1 (ground_leaf 1) clique_leaf
    ∷ two_branches 0 1 (ground_leaf 1) (two_branches 0 2 (ground_leaf 2) (two_branches 1 2 (ground_leaf 3) clique_leaf))
    ∷ met_leaf []
    ∷ two_branches 1 2 (ground_leaf 2) (one_branch 1 3 (one_branch 0 1 (met_leaf (same 0 1 ∷ same 1 3 ∷ apart 1 2 ∷ []))))
    ∷ two_branches 1 2 (ground_leaf 2) (two_branches 1 3 (two_branches 0 1 clique_leaf clique_leaf) (ground_leaf 1))
    ∷ two_branches 3 1 (two_branches 0 1 (two_branches 0 2 (ground_leaf 2) clique_leaf) clique_leaf) (ground_leaf 1)
    ∷ one_branch 0 1 (two_branches 0 2 (ground_leaf 1) (two_branches 0 3 (ground_leaf 3) (one_branch 2 3 (one_branch 0 4 (met_leaf (same 0 4 ∷ same 2 3 ∷ apart 0 3 ∷ apart 0 2 ∷ same 0 1 ∷ []))))))
    ∷ one_branch 0 1 (two_branches 0 2 (ground_leaf 1) (two_branches 0 3 (ground_leaf 2) (one_branch 2 3 (met_leaf (same 2 3 ∷ apart 0 3 ∷ apart 0 2 ∷ same 0 1 ∷ [])))))
    ∷ two_branches 0 1 (ground_leaf 1) (two_branches 0 2 (ground_leaf 2) (one_branch 0 3 (met_leaf (same 0 3 ∷ apart 0 2 ∷ apart 0 1 ∷ []))))
    ∷ []
unfolding merged classes marked value taken ground_or_split any_term some_term count_up smallest_from classes_left split_with clique_or_split none_taken node_under is_met after_same visit_node visit limited_tree
trees = refl

-- How many nodes they have.
pub counts :
    node_count (limited_tree 1 1 [])
    ∷ node_count (limited_tree 1 2 [])
    ∷ node_count (limited_tree 2 2 [])
    ∷ node_count (limited_tree 1 2 conditions_clique)
    ∷ node_count (limited_tree 2 2 conditions_clique)
    ∷ node_count (limited_tree 3 2 conditions_clique)
    ∷ node_count (limited_tree 2 3 conditions_c)
    ∷ node_count (limited_tree 1 3 conditions_c)
    ∷ node_count (limited_tree 1 3 conditions_reversed)
    ∷ node_count (limited_tree 2 4 conditions_square)
    ∷ node_count (limited_tree 2 3 conditions_pair)
    ∷ node_count (limited_tree 3 3 conditions_star)
    ∷ []
    ≡ 2 ∷ 3 ∷ 2 ∷ 3 ∷ 7 ∷ 1 ∷ 5 ∷ 7 ∷ 7 ∷ 8 ∷ 7 ∷ 6 ∷ []
unfolding merged classes marked value taken ground_or_split any_term some_term count_up smallest_from classes_left split_with clique_or_split none_taken node_under is_met after_same visit_node visit limited_tree node_count
counts = refl

-- At the met nodes: the classes left of lots 0 to n.
pub left :
    classes_left 1 (met_decisions (limited_tree 1 1 []))
    ∷ classes_left 2 (met_decisions (limited_tree 1 2 []))
    ∷ classes_left 2 (met_decisions (limited_tree 2 2 []))
    ∷ classes_left 2 (met_decisions (limited_tree 3 2 conditions_clique))
    ∷ classes_left 3 (met_decisions (limited_tree 2 3 conditions_c))
    ∷ classes_left 4 (met_decisions (limited_tree 2 4 conditions_square))
    ∷ classes_left 3 (met_decisions (limited_tree 2 3 conditions_pair))
    ∷ []
    ≡ (0 ∷ [])
    ∷ (0 ∷ [])
    ∷ (0 ∷ 2 ∷ [])
    ∷ (0 ∷ 1 ∷ 2 ∷ [])
    ∷ (0 ∷ 2 ∷ [])
    ∷ (0 ∷ 2 ∷ [])
    ∷ (0 ∷ 2 ∷ [])
    ∷ []
unfolding merged classes marked value taken ground_or_split any_term some_term count_up smallest_from classes_left split_with clique_or_split none_taken node_under is_met after_same visit_node visit limited_tree met_decisions
left = refl

-- How many different numbers they have, as assignments, by the test.
pub differents :
    different 1 (smallest_lot (met_decisions (limited_tree 1 1 [])))
    ∷ different 2 (smallest_lot (met_decisions (limited_tree 1 2 [])))
    ∷ different 2 (smallest_lot (met_decisions (limited_tree 2 2 [])))
    ∷ different 2 (smallest_lot (met_decisions (limited_tree 3 2 conditions_clique)))
    ∷ different 3 (smallest_lot (met_decisions (limited_tree 2 3 conditions_c)))
    ∷ different 4 (smallest_lot (met_decisions (limited_tree 2 4 conditions_square)))
    ∷ different 3 (smallest_lot (met_decisions (limited_tree 2 3 conditions_pair)))
    ∷ []
    ≡ 1 ∷ 1 ∷ 2 ∷ 3 ∷ 2 ∷ 2 ∷ 2 ∷ []
unfolding merged classes marked value taken ground_or_split any_term some_term count_up smallest_from classes_left split_with clique_or_split none_taken node_under is_met after_same visit_node visit limited_tree met_decisions among once different_by
differents = refl

-- Which cliques pass, of lots 0 to 2: two classes apart under limit 1, where they are those with the smallest lots; marks between other classes don't help. With
-- limit 2 all three have to be apart.
pub cliques :
    clique_passes 1 2 (apart 0 1 ∷ [])
    ∷ clique_passes 1 2 (apart 1 2 ∷ [])
    ∷ clique_passes 1 2 (apart 1 2 ∷ same 0 1 ∷ [])
    ∷ clique_passes 2 2 (apart 0 1 ∷ [])
    ∷ clique_passes 2 2 (apart 1 2 ∷ apart 0 2 ∷ apart 0 1 ∷ [])
    ∷ clique_passes 3 2 (apart 1 2 ∷ apart 0 2 ∷ apart 0 1 ∷ [])
    ∷ []
    ≡ true ∷ false ∷ true ∷ false ∷ true ∷ false ∷ []
unfolding merged classes marked count_up smallest_from classes_left marked_with all_marked clique_passes
cliques = refl
