-- Document 01's sheets A, C and D as lists of conditions, and the trees that the search visits, by computation; a pair that stands in the other order;
-- withdrawn conditions; and conditions that name lot 0.
use Rattle.std.specs.Prelude.{List, [], ◌∷◌, map, ◌≡◌, refl}
use Rattle.sheet.specs.Conditions.{Term, same, apart, count_up}
use Rattle.equality.specs.Meaning.{any_term, some_term}
use Rattle.equality.specs.Node.{merged, classes, marked, value, taken, ground_or_split, node}
use Rattle.equality.specs.Search.{met_leaf, ground_leaf, one_branch, two_branches, is_met, after_same, visit_node, visit, same_terms, all_same_terms, search_tree, met_decisions, grouping_bytes}

-- A: same 1 2; same 2 3; apart 1 3.
abbrev pub conditions_a : List (List Term)
conditions_a = (same 1 2 ∷ []) ∷ (same 2 3 ∷ []) ∷ (apart 1 3 ∷ []) ∷ []

-- C: same 1 2 or same 1 3; apart 1 2.
abbrev pub conditions_c : List (List Term)
conditions_c = (same 1 2 ∷ same 1 3 ∷ []) ∷ (apart 1 2 ∷ []) ∷ []

-- D: in its second half a term is false by a mark between classes that is on no pair of lots: 1 and 2 are set apart, 2 and 3 the same.
abbrev pub conditions_d : List (List Term)
conditions_d =
    (apart 1 2 ∷ apart 2 3 ∷ apart 3 1 ∷ [])
    ∷
    (same 1 2 ∷ same 2 3 ∷ [])
    ∷
    (same 1 2 ∷ same 3 1 ∷ [])
    ∷
    (same 2 3 ∷ same 3 1 ∷ [])
    ∷ []

-- A pair whose first lot is the larger: "lots as written in the term".
abbrev pub conditions_reversed : List (List Term)
conditions_reversed = (same 2 1 ∷ []) ∷ (apart 1 2 ∷ []) ∷ []

-- C with condition 1 withdrawn, and with both.
abbrev pub conditions_withdrawn : List (List Term)
conditions_withdrawn = [] ∷ (apart 1 2 ∷ []) ∷ []

abbrev pub conditions_all_withdrawn : List (List Term)
conditions_all_withdrawn = [] ∷ [] ∷ []

-- Lot 0 in both fields: its class is marked apart from that of lot 2, and then lot 1 joins it; and lots that join it by way of others.
abbrev pub conditions_zero : List (List Term)
conditions_zero = (same 2 0 ∷ same 0 1 ∷ []) ∷ (apart 0 2 ∷ []) ∷ []

abbrev pub conditions_join_zero : List (List Term)
conditions_join_zero = (same 2 3 ∷ []) ∷ (same 1 2 ∷ []) ∷ (same 0 1 ∷ []) ∷ []

-- Each with the tree that is visited.
pub trees :
    map search_tree (conditions_a ∷ conditions_c ∷ conditions_d ∷ conditions_reversed ∷ conditions_withdrawn ∷ conditions_all_withdrawn ∷ conditions_zero ∷ [])
    ≡ two_branches 1 2 (two_branches 2 3 (ground_leaf 3) (ground_leaf 2)) (ground_leaf 1)
    ∷ two_branches 1 2 (ground_leaf 2) (one_branch 1 3 (met_leaf (same 1 3 ∷ apart 1 2 ∷ [])))
    ∷ two_branches 1 2 (two_branches 2 3 (ground_leaf 1) (ground_leaf 4)) (two_branches 2 3 (ground_leaf 3) (ground_leaf 2))
    ∷ two_branches 2 1 (ground_leaf 2) (ground_leaf 1)
    ∷ met_leaf []
    ∷ met_leaf []
    ∷ two_branches 2 0 (ground_leaf 2) (one_branch 0 1 (met_leaf (same 0 1 ∷ apart 2 0 ∷ [])))
    ∷ []
unfolding merged classes marked value taken ground_or_split node is_met after_same visit_node visit same_terms all_same_terms search_tree any_term some_term count_up
trees = refl

-- The groupings at the met nodes of C and of the two with lot 0, whose class has the byte 0.
pub groupings :
    map (λ tss. grouping_bytes 3 (met_decisions (search_tree tss))) (conditions_c ∷ conditions_zero ∷ conditions_join_zero ∷ [])
    ≡ (1 ∷ 2 ∷ 1 ∷ []) ∷ (0 ∷ 2 ∷ 3 ∷ []) ∷ (0 ∷ 0 ∷ 0 ∷ []) ∷ []
unfolding merged classes marked value taken ground_or_split node is_met after_same visit_node visit same_terms all_same_terms search_tree any_term some_term count_up met_decisions grouping_bytes
groupings = refl
