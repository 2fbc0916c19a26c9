-- Any sufficient fuel gives the tree that the rule visits without fuel, so fuel never decides; for every rule of which a measure falls at each split.
use Prim.Native.Nat.{ℕ, zero, suc, ◌≤◌, ◌<◌}
use mathlib.Core.Bool.{Bool, true, false, false≢true}
use mathlib.Core.List.{List, [], ◌∷◌}
use mathlib.Core.Path.{◌≡◌, refl, ap}
use native.Mathlib.Omega.{arith}
use Rattle.sheet.specs.Conditions.{Term, same, apart}
use Rattle.equality.specs.Node.{Decisions, Node, met, ground, split, clique, node}
use Rattle.equality.specs.Search.{Tree, met_leaf, ground_leaf, clique_leaf, one_branch, two_branches, is_met, after_same, visit_node, visit, node_rule, depth, met_decisions, all_same_terms, search_tree}
use Rattle.equality.specs.Visits.{Visits, visits_met, visits_ground, visits_clique, visits_one, visits_two}
use Rattle.equality.specs.Opens.{all_opens}
use Rattle.equality.proofs.Rule.{split_at}
use Rattle.equality.proofs.Opens.{opens_all_same, same_fewer, apart_fewer}

-- The decisions of the met node are those of a met node.
pub met_rule : {rule : Decisions → Node} {ds : Decisions} {t : Tree} → Visits rule ds t → is_met t ≡ true → rule (met_decisions t) ≡ met
unfolding is_met met_decisions
met_rule (visits_met e) m = e
met_rule (visits_ground e) m = absurd (false≢true m)
met_rule (visits_clique e) m = absurd (false≢true m)
met_rule (visits_one e v q) m = met_rule v m
met_rule (visits_two e v q w) m = met_rule w m

-- ---- a measure

-- Nothing has to be known of the decisions.
abbrev pub Any : Decisions → Type 0
Any ds = Unit {0}

-- Both branches of a split keep what is known of decisions, and the measure falls.
pub record Branches (Good : Decisions → Type 0) (μ : Decisions → ℕ) (ds : Decisions) (a b : ℕ) : Type 0 where
  pub same_good : Good (same a b ∷ ds)
  pub apart_good : Good (apart a b ∷ ds)
  pub same_falls : μ (same a b ∷ ds) < μ ds
  pub apart_falls : μ (apart a b ∷ ds) < μ ds

module _ (rule : Decisions → Node) (Good : Decisions → Type 0) (μ : Decisions → ℕ)
    (branches : (ds : Decisions) → Good ds → (a b : ℕ) → rule ds ≡ split a b → Branches Good μ ds a b) where
  visits_node : (go : Decisions → Tree) (ds : Decisions) (r : Node) → rule ds ≡ r
      → ((a b : ℕ) → r ≡ split a b → Visits rule (same a b ∷ ds) (go (same a b ∷ ds)) × Visits rule (apart a b ∷ ds) (go (apart a b ∷ ds)))
      → Visits rule ds (visit_node go ds r)
  unfolding visit_node after_same
  visits_node go ds met e both = visits_met e
  visits_node go ds (ground c) e both = visits_ground e
  visits_node go ds (split a b) e both = after (is_met (go (same a b ∷ ds))) refl (both a b refl)
    where
      after : (m : Bool) → is_met (go (same a b ∷ ds)) ≡ m
          → Visits rule (same a b ∷ ds) (go (same a b ∷ ds)) × Visits rule (apart a b ∷ ds) (go (apart a b ∷ ds))
          → Visits rule ds (after_same go ds a b (go (same a b ∷ ds)) m)
      after true q both = visits_one e both.0 q
      after false q both = visits_two e both.0 q both.1
  visits_node go ds clique e both = visits_clique e

  -- With fuel above the measure the visit follows the rule,
  pub visit_visits : (fuel : ℕ) (ds : Decisions) → Good ds → μ ds < fuel → Visits rule ds (visit rule fuel ds)
  unfolding visit
  visit_visits zero ds good h = absurd (omega arith)
  visit_visits (suc fuel) ds good h =
      visits_node (visit rule fuel) ds (rule ds) refl
      (λ a b e.
      let at = branches ds good a b e in (
        visit_visits fuel (same a b ∷ ds) at.same_good (omega (arith, at.same_falls)),
        visit_visits fuel (apart a b ∷ ds) at.apart_good (omega (arith, at.apart_falls)),
      ))

  -- and there is only one such tree,
  pub visit_unique : (fuel : ℕ) {ds : Decisions} {t : Tree} → Visits rule ds t → Good ds → μ ds < fuel → visit rule fuel ds ≡ t
  unfolding visit visit_node after_same
  visit_unique zero v good h = absurd (omega arith)
  visit_unique (suc fuel) (visits_met e) good h = rw e
  visit_unique (suc fuel) (visits_ground e) good h = rw e
  visit_unique (suc fuel) (visits_clique e) good h = rw e
  visit_unique (suc fuel) {ds} (visits_one {a = a} {b = b} {t = t} e v m) good h =
      let at = branches ds good a b e in
      let branch : visit rule fuel (same a b ∷ ds) ≡ t = visit_unique fuel v at.same_good (omega (arith, at.same_falls)) in
      rw e (rw branch (rw m))
  visit_unique (suc fuel) {ds} (visits_two {a = a} {b = b} {t = t} {u = u} e v m w) good h =
      let at = branches ds good a b e in
      let same_branch : visit rule fuel (same a b ∷ ds) ≡ t = visit_unique fuel v at.same_good (omega (arith, at.same_falls)) in
      let apart-branch : visit rule fuel (apart a b ∷ ds) ≡ u = visit_unique fuel w at.apart_good (omega (arith, at.apart_falls)) in
      rw e (rw same_branch (rw m (rw apart-branch)))

  -- so that fuel never decides.
  pub fuel_never_decides : (fuel fuel' : ℕ) (ds : Decisions) → Good ds → μ ds < fuel → μ ds < fuel' → visit rule fuel ds ≡ visit rule fuel' ds
  fuel_never_decides fuel fuel' ds good h h' = visit_unique fuel (visit_visits fuel' ds good h') good h

  -- No path has more splits than the measure.
  pub depth_measure : {ds : Decisions} {t : Tree} → Visits rule ds t → Good ds → depth t ≤ μ ds
  unfolding depth
  depth_measure (visits_met e) good = omega arith
  depth_measure (visits_ground e) good = omega arith
  depth_measure (visits_clique e) good = omega arith
  depth_measure {ds} (visits_one {a = a} {b = b} e v m) good =
      let at = branches ds good a b e in omega (arith, depth_measure v at.same_good, at.same_falls)
  depth_measure {ds} (visits_two {a = a} {b = b} e v m w) good =
      let at = branches ds good a b e in
      omega (arith, depth_measure v at.same_good, depth_measure w at.apart_good, at.same_falls, at.apart_falls)

  -- What is known of decisions holds at the met node.
  pub met_good : {ds : Decisions} {t : Tree} → Visits rule ds t → is_met t ≡ true → Good ds → Good (met_decisions t)
  unfolding is_met met_decisions
  met_good (visits_met e) m good = good
  met_good (visits_ground e) m good = absurd (false≢true m)
  met_good (visits_clique e) m good = absurd (false≢true m)
  met_good {ds} (visits_one {a = a} {b = b} e v q) m good = met_good v m (branches ds good a b e).same_good
  met_good {ds} (visits_two {a = a} {b = b} e v q w) m good = met_good w m (branches ds good a b e).apart_good

-- ---- the tree by the node's kind

-- The tree of a split.
pub data SplitTree (rule : Decisions → Node) (ds : Decisions) (a b : ℕ) : Tree → Type 0 where
  one : {t : Tree} → Visits rule (same a b ∷ ds) t → is_met t ≡ true → SplitTree rule ds a b (one_branch a b t)
  two : {t u : Tree} → Visits rule (same a b ∷ ds) t → is_met t ≡ false → Visits rule (apart a b ∷ ds) u → SplitTree rule ds a b (two_branches a b t u)

module _ {rule : Decisions → Node} {ds : Decisions} where
  pub met_tree : {t : Tree} → Visits rule ds t → rule ds ≡ met → t ≡ met_leaf ds
  met_tree (visits_met e) n = refl
  met_tree (visits_ground e) n = let z : ◌≡◌ {A = ℕ} 0 1 = cc in absurd (omega arith)
  met_tree (visits_clique e) n = let z : ◌≡◌ {A = ℕ} 0 1 = cc in absurd (omega arith)
  met_tree (visits_one e v m) n = let z : ◌≡◌ {A = ℕ} 0 1 = cc in absurd (omega arith)
  met_tree (visits_two e v m w) n = let z : ◌≡◌ {A = ℕ} 0 1 = cc in absurd (omega arith)

  pub ground_tree : {t : Tree} {c : ℕ} → Visits rule ds t → rule ds ≡ ground c → t ≡ ground_leaf c
  ground_tree (visits_met e) n = let z : ◌≡◌ {A = ℕ} 0 1 = cc in absurd (omega arith)
  ground_tree (visits_ground e) n = ap ground_leaf cc
  ground_tree (visits_clique e) n = let z : ◌≡◌ {A = ℕ} 0 1 = cc in absurd (omega arith)
  ground_tree (visits_one e v m) n = let z : ◌≡◌ {A = ℕ} 0 1 = cc in absurd (omega arith)
  ground_tree (visits_two e v m w) n = let z : ◌≡◌ {A = ℕ} 0 1 = cc in absurd (omega arith)

  pub clique_tree : {t : Tree} → Visits rule ds t → rule ds ≡ clique → t ≡ clique_leaf
  clique_tree (visits_met e) n = let z : ◌≡◌ {A = ℕ} 0 1 = cc in absurd (omega arith)
  clique_tree (visits_ground e) n = let z : ◌≡◌ {A = ℕ} 0 1 = cc in absurd (omega arith)
  clique_tree (visits_clique e) n = refl
  clique_tree (visits_one e v m) n = let z : ◌≡◌ {A = ℕ} 0 1 = cc in absurd (omega arith)
  clique_tree (visits_two e v m w) n = let z : ◌≡◌ {A = ℕ} 0 1 = cc in absurd (omega arith)

  pub split_tree : {t : Tree} {a b : ℕ} → Visits rule ds t → rule ds ≡ split a b → SplitTree rule ds a b t
  split_tree (visits_met e) n = let z : ◌≡◌ {A = ℕ} 0 1 = cc in absurd (omega arith)
  split_tree (visits_ground e) n = let z : ◌≡◌ {A = ℕ} 0 1 = cc in absurd (omega arith)
  split_tree (visits_clique e) n = let z : ◌≡◌ {A = ℕ} 0 1 = cc in absurd (omega arith)
  split_tree {a = a} {b = b} (visits_one {a = x} {b = y} e v m) n =
      let first : x ≡ a = cc in
      let second : y ≡ b = cc in
      rw (← first, ← second) (one v m)
  split_tree {a = a} {b = b} (visits_two {a = x} {b = y} e v m w) n =
      let first : x ≡ a = cc in
      let second : y ≡ b = cc in
      rw (← first, ← second) (two v m w)

-- ---- the node rule

module _ (tss : List (List Term)) where
  node_branches : (ds : Decisions) → Any ds → (a b : ℕ) → node ds tss ≡ split a b → Branches Any (λ ds. all_opens ds tss) ds a b
  node_branches ds _ a b e =
      let at = split_at ds tss a b e in
      record { same_good = tt; apart_good = tt; same_falls = same_fewer ds tss a b at; apart_falls = apart_fewer ds tss a b at }

  pub search_visits : Visits (node_rule tss) [] (search_tree tss)
  unfolding search_tree
  search_visits =
      visit_visits (node_rule tss) Any (λ ds. all_opens ds tss) node_branches (suc (all_same_terms tss)) [] tt (omega (arith, opens_all_same [] tss))

  -- Theorem 4: no path has more splits than there are "same" terms.
  pub search_depth : depth (search_tree tss) ≤ all_same_terms tss
  search_depth = omega (arith, depth_measure (node_rule tss) Any (λ ds. all_opens ds tss) node_branches search_visits tt, opens_all_same [] tss)

  -- Fuel never decides the search.
  pub search_fuel : (fuel fuel' : ℕ) (ds : Decisions) → all_opens ds tss < fuel → all_opens ds tss < fuel' → visit (node_rule tss) fuel ds ≡ visit (node_rule tss) fuel' ds
  search_fuel fuel fuel' ds h h' = fuel_never_decides (node_rule tss) Any (λ ds. all_opens ds tss) node_branches fuel fuel' ds tt h h'
