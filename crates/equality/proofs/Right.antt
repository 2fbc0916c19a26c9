-- The search is right about every assignment: a met node's classes meet the conditions (theorem 2), and where no node is met nobody's do
-- (theorem 3).
use Prim.Native.Nat.{ℕ}
use mathlib.Core.Bool.{Bool, true, false, false≢true}
use mathlib.Core.List.{List, [], ◌∷◌}
use mathlib.Core.Logic.{◌≢◌, ◌↔◌}
use mathlib.Core.Path.{◌≡◌, refl, sym, ◌∙◌}
use native.Mathlib.Decide.{ℕ_discrete}
use Rattle.sheet.specs.Conditions.{Term, same}
use Rattle.buffers.specs.Lists.{All}
use Rattle.equality.specs.Meaning.{Holds, some_term, MeetsCondition, MeetsAll, Assignment, meets_all}
use Rattle.equality.specs.Node.{Decisions, Respects, smallest_lot, is_false, value, true_or_open_apart, no_condition, passed_over, taken, Node, ground, split, clique, node}
use Rattle.equality.specs.Search.{Tree, is_met, met_decisions, node_rule, search_tree}
use Rattle.equality.proofs.Meaning.{all_decides}
use Rattle.equality.proofs.Some.{none_some}
use Rattle.equality.specs.Opens.{Small}
use Rattle.equality.proofs.Classes.{Says, value-says}
use Rattle.equality.proofs.Least.{zero_class}
use Rattle.equality.proofs.Node.{passed_by_classes}
use Rattle.equality.proofs.Rule.{taken_none, GroundAt, met-passed, ground_at, ground_false, split_at, never_clique}
use Rattle.buffers.proofs.Lists.{all_two, all_at}
use Rattle.equality.proofs.Opens.{split_all}
use Rattle.equality.specs.Visits.{Visits, visits_met, visits_ground, visits_clique, visits_one, visits_two}
use Rattle.equality.proofs.Visits.{met_rule, search_visits}

-- ---- met

passed-meets : (ds : Decisions) (tss : List (List Term)) → All (λ ts. passed_over ds ts ≡ true) tss → meets_all (smallest_lot ds) tss ≡ true
unfolding meets_all
passed-meets ds [] all = refl
passed-meets ds (ts ∷ tss) all = rw (sym (passed_by_classes ds ts) ∙ all.0) (passed-meets ds tss all.1)

-- Where no condition is taken, the classes meet them all.
pub none-taken : (ds : Decisions) (tss : List (List Term)) → taken ds 1 tss ≡ no_condition → meets_all (smallest_lot ds) tss ≡ true
none-taken ds tss e = passed-meets ds tss (taken_none ds 1 tss e)

-- The classes of a tree's met node meet the conditions.
pub met-meets : (tss : List (List Term)) {ds : Decisions} {t : Tree} → Visits (node_rule tss) ds t → is_met t ≡ true → meets_all (smallest_lot (met_decisions t)) tss ≡ true
met-meets tss {t = t} v m = passed-meets (met_decisions t) tss (met-passed (met_decisions t) tss (met_rule v m))

-- ---- cannot

module _ {A : Type 0} (f : ℕ → A) (ds : Decisions) (small : All Small ds) (respects : Respects f ds) where
  -- A condition each of whose terms is false, and which some test does not pass, is not met by an assignment that respects the decisions.
  pub false_unmet : (p : Term → Bool) (ts : List Term) → some_term p ts ≡ false → All Small ts → All (λ t. value ds t ≡ is_false) ts
      → ¬ MeetsCondition f ts
  false_unmet p ts none small_terms falses = none_some p (Holds f) ts none (all_two false_says ts small_terms falses)
    where
      false_says : (t : Term) → Small t → value ds t ≡ is_false → ¬ Holds f t
      false_says t small' e = let says : Says f ds small respects is_false t = rw e at (value-says f ds small respects t small') in says

-- For every rule: where no node is met, what grounds and cliques exclude is excluded, whatever it is.
module _ (rule : Decisions → Node) {A : Type 0} (decide : (x y : A) → Dec (x ≡ y)) (f : ℕ → A) (Wanted : Type 0)
    (splits : (ds : Decisions) (a b : ℕ) → rule ds ≡ split a b → Small (same a b))
    (grounds : (ds : Decisions) → All Small ds → Respects f ds → (c : ℕ) → rule ds ≡ ground c → ¬ Wanted)
    (cliques : (ds : Decisions) → All Small ds → Respects f ds → rule ds ≡ clique → ¬ Wanted) where
  pub cannot_rule : {ds : Decisions} {t : Tree} → Visits rule ds t → is_met t ≡ false → All Small ds → Respects f ds → ¬ Wanted
  unfolding is_met Respects
  cannot_rule (visits_met e) m small respects wanted = false≢true (sym m)
  cannot_rule {ds} (visits_ground {c = c} e) m small respects wanted = grounds ds small respects c e wanted
  cannot_rule {ds} (visits_clique e) m small respects wanted = cliques ds small respects e wanted
  cannot_rule (visits_one e v q) m small respects wanted = false≢true (sym m ∙ q)
  cannot_rule {ds} (visits_two {a = a} {b = b} e v q w) m small respects wanted =
      let pair = splits ds a b e in
      branch (decide (f a) (f b))
      (λ equal. cannot_rule v q (pair, small) (equal, respects) wanted)
      (λ differ. cannot_rule w m (pair, small) (differ, respects) wanted)
    where
      branch : Dec (f a ≡ f b) → (f a ≡ f b → ⊥) → (f a ≢ f b → ⊥) → ⊥
      branch (yes e) equal differ = equal e
      branch (no e) equal differ = differ e

module _ {A : Type 0} (f : ℕ → A) (tss : List (List Term)) (smalls : All (All Small) tss) where
  -- A ground's condition is not met.
  pub ground_unmet : (ds : Decisions) → All Small ds → Respects f ds → (c : ℕ) → node ds tss ≡ ground c → ¬ MeetsAll f tss
  ground_unmet ds small respects c e meets' = grounded (ground_at ds tss c e)
    where
      grounded : GroundAt ds tss c → ⊥
      grounded at =
          let placed = at.taken.place in
          false_unmet f ds small respects (λ t. true_or_open_apart t (value ds t)) at.terms at.taken.unmet
          (all_at (All Small) at.taken.front at.terms at.taken.back (rw placed at smalls))
          (ground_false at)
          (all_at (MeetsCondition f) at.taken.front at.terms at.taken.back (rw placed at meets'))

  -- Theorem 3, under any decisions.
  pub cannot_under : ((x y : A) → Dec (x ≡ y)) → {ds : Decisions} {t : Tree} → Visits (node_rule tss) ds t → is_met t ≡ false → All Small ds → Respects f ds → ¬ MeetsAll f tss
  cannot_under decide =
      cannot_rule (node_rule tss) decide f (MeetsAll f tss)
      (λ ds a b e. split_all ds tss a b (split_at ds tss a b e) Small smalls)
      ground_unmet
      (λ ds small respects e. absurd (never_clique ds tss e))

-- ---- the search

module _ (tss : List (List Term)) (smalls : All (All Small) tss) where
  -- Theorem 2: where the search meets a node, the classes there meet the conditions.
  pub search_met : is_met (search_tree tss) ≡ true → meets_all (smallest_lot (met_decisions (search_tree tss))) tss ≡ true
  search_met m = met-meets tss (search_visits tss) m

  -- Theorem 3: where it meets none, no assignment meets them, with values of any type whose equality is decidable.
  pub search_cannot : is_met (search_tree tss) ≡ false → {A : Type 0} → ((x y : A) → Dec (x ≡ y)) → (f : ℕ → A) → ¬ MeetsAll f tss
  unfolding Respects
  search_cannot m decide f = cannot_under f tss smalls decide (search_visits tss) m tt tt

  -- So the search meets a node where any assignment meets the conditions, whichever value lot 0 has,
  pub any_met : {A : Type 0} → ((x y : A) → Dec (x ≡ y)) → (f : ℕ → A) → MeetsAll f tss → is_met (search_tree tss) ≡ true
  any_met decide f meets' = go (is_met (search_tree tss)) refl
    where
      go : (m : Bool) → is_met (search_tree tss) ≡ m → m ≡ true
      go true e = refl
      go false e = absurd (search_cannot e decide f meets')

  -- and exactly when one into the naturals does that gives lot 0 the number 0.
  pub search_decides : is_met (search_tree tss) ≡ true ↔ (f : ℕ → ℕ) × Assignment f × MeetsAll f tss
  search_decides =
      let found = met_decisions (search_tree tss) in
      ((λ m. (smallest_lot found, zero_class found, (all_decides _ tss).0 (search_met m))), (λ h. any_met ℕ_discrete h.0 h.2))
