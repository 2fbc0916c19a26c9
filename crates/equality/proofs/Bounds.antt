-- How many: for any φ that a split's branches share the nodes are at most 2 φ − 1 (theorem 5, the general lemma).
use Prim.Native.Nat.{ℕ, suc, ◌+◌, ◌≤◌}
use mathlib.Core.List.{List, [], ◌∷◌, flatten}
use mathlib.Core.Path.{◌≡◌}
use native.Mathlib.Omega.{arith}
use lib.ListN.{length, length-append}
use Rattle.sheet.specs.Conditions.{Term, same, apart}
use Rattle.equality.specs.Node.{Decisions, split, node}
use Rattle.equality.specs.Search.{Tree, node_count, same_terms, node_rule, all_same_terms, search_tree}
use Rattle.equality.specs.Visits.{Visits, visits_met, visits_ground, visits_clique, visits_one, visits_two}
use Rattle.equality.proofs.Visits.{search_visits}

-- "Same" terms are terms.
same-terms : (ts : List Term) → same_terms ts ≤ length ts
unfolding same_terms
same-terms [] = omega arith
same-terms (same a b ∷ ts) = omega (arith, same-terms ts)
same-terms (apart a b ∷ ts) = omega (arith, same-terms ts)

pub all_same_terms_lem : (tss : List (List Term)) → all_same_terms tss ≤ length (flatten tss)
unfolding all_same_terms flatten
all_same_terms_lem [] = omega arith
all_same_terms_lem (ts ∷ tss) = omega (arith, length-append ts (flatten tss), same-terms ts, all_same_terms_lem tss)

-- Where φ is at least 1, and at each split no less than in both branches together,
module _ (tss : List (List Term)) (φ : Decisions → ℕ) (positive : (ds : Decisions) → 1 ≤ φ ds)
    (shared : (ds : Decisions) (a b : ℕ) → node ds tss ≡ split a b → φ (same a b ∷ ds) + φ (apart a b ∷ ds) ≤ φ ds) where
  pub count_under : {ds : Decisions} {t : Tree} → Visits (node_rule tss) ds t → suc (node_count t) ≤ φ ds + φ ds
  unfolding node_count
  count_under {ds} (visits_met e) = omega (arith, positive ds)
  count_under {ds} (visits_ground e) = omega (arith, positive ds)
  count_under {ds} (visits_clique e) = omega (arith, positive ds)
  count_under {ds} (visits_one {a = a} {b = b} e v m) = omega (arith, count_under v, positive (apart a b ∷ ds), shared ds a b e)
  count_under {ds} (visits_two {a = a} {b = b} e v m w) = omega (arith, count_under v, count_under w, shared ds a b e)

  -- the search's nodes are at most 2 φ − 1, φ at no decisions.
  pub search_count : suc (node_count (search_tree tss)) ≤ φ [] + φ []
  search_count = count_under (search_visits tss)
