-- The search with a limit or without one: each split names an undecided pair of lots 0 to n, so that fuel never decides; a met node's classes meet the
-- conditions and keep the limit; and where no node is met nobody does both.
use Prim.Native.Nat.{ℕ, suc, ◌≤◌, ◌<◌}
use mathlib.Core.Bool.{Bool, true, false, ◌||◌}
use mathlib.Core.List.{List, [], ◌∷◌}
use mathlib.Core.Logic.{◌↔◌}
use mathlib.Core.Path.{◌≡◌, refl, sym, ap, ap₂, fun_ext, ◌∙◌}
use native.Mathlib.Decide.{ℕ_discrete}
use native.Mathlib.Omega.{arith}
use borrow.Author.Tests.{ne_eqb}
use lib.Dec.{eqb}
use Rattle.sheet.specs.Format.{most_lots}
use Rattle.sheet.specs.Conditions.{Term, same, apart, TermIn}
use Rattle.buffers.specs.Lists.{All}
use Rattle.buffers.proofs.Lists.{all_map}
use Rattle.equality.specs.Meaning.{MeetsAll, Assignment, meets_all}
use Rattle.equality.specs.Node.{Decisions, Respects, smallest_lot, Node, met, ground, split, clique, node}
use Rattle.equality.specs.Search.{is_met, visit, depth, met_decisions, all_same_terms, search_tree}
use Rattle.equality.specs.Opens.{Small, closed}
use Rattle.equality.specs.Visits.{Visits}
use Rattle.equality.proofs.Meaning.{all_decides}
use Rattle.equality.proofs.Least.{zero_class}
use Rattle.equality.proofs.Steps.{open_not_closed, same-closed, apart-closed, same_closes, apart_closes}
use Rattle.equality.proofs.Rule.{split_at, met-none, never_clique}
use Rattle.equality.proofs.Opens.{split_all, opens_all_same, same_fewer, apart_fewer}
use Rattle.equality.proofs.Visits.{Any, Branches, visit_visits, fuel_never_decides, depth_measure, met_rule}
use Rattle.equality.proofs.Right.{none-taken, cannot_rule, ground_unmet}
use Rattle.limit.specs.Meaning.{Limit, unlimited, up_to, AtMost, Keeps}
use Rattle.limit.specs.Rule.{marks_of, none_taken, node_under}
use Rattle.limit.specs.Search.{splits_under, limited_tree, tree_under, open_under}
use Rattle.limit.proofs.Clique.{clique_excludes}
use Rattle.limit.proofs.Few.{classes-few}
use Rattle.limit.proofs.NodeKinds.{Smallest, Kind, is_ground, is_term, is_met_lem, is_pair, is_clique_lem, kind_of_lem}
use Rattle.limit.proofs.Pairs.{undecided_most, undecided_falls}

-- ---- without a limit the rule and the tree are document 01's

pub unlimited-node : (n : ℕ) (tss : List (List Term)) (ds : Decisions) → node_under unlimited n tss ds ≡ node ds tss
unfolding node_under none_taken node
unlimited-node n tss ds = refl

-- The tree with a limit or without one, by the one rule.
tree_visit : (limit : Limit) (n : ℕ) (tss : List (List Term)) → visit (node_under limit n tss) (suc (splits_under limit n tss)) [] ≡ tree_under limit n tss
unfolding search_tree limited_tree
tree_visit unlimited n tss = ap (λ (rule : Decisions → Node). visit rule (suc (all_same_terms tss)) []) (fun_ext (unlimited-node n tss))
tree_visit (up_to g) n tss = refl

-- ---- a split's pair

-- A pair of lots 0 to n that is neither in one class nor marked apart.
pub record OpenPair (n : ℕ) (ds : Decisions) (a b : ℕ) : Type 0 where
  pub within : TermIn n (same a b)
  pub open' : closed ds a b ≡ false

-- Two smallest lots, one below the other, that are not marked apart.
smallest_open : (n : ℕ) (ds : Decisions) (x y : ℕ) → Smallest n ds x → Smallest n ds y → x < y → marks_of ds x y ≡ false → OpenPair n ds x y
smallest_open n ds x y hx hy less unmarked =
    record {
      within = (record { low = omega arith; high = hx.0 }, record { low = omega arith; high = hy.0 });
      open' =
          ap₂ (λ (u v : ℕ). eqb u v || marks_of ds u v) hx.1 hy.1
          ∙ ap₂ ◌||◌ (ne_eqb x y (λ e. omega arith)) unmarked;
    }

module _ (limit : Limit) (n : ℕ) (tss : List (List Term)) (within : All (All (TermIn n)) tss) where
  term_open : (ds : Decisions) (a b : ℕ) → node ds tss ≡ split a b → OpenPair n ds a b
  term_open ds a b e =
      let at = split_at ds tss a b e in
      record { within = split_all ds tss a b at (TermIn n) within; open' = open_not_closed ds (same a b) at.first.opened }

  -- A split names a pair of lots 0 to n that is neither shared nor marked,
  pub split_open : (ds : Decisions) (a b : ℕ) → node_under limit n tss ds ≡ split a b → OpenPair n ds a b
  split_open ds a b e = go limit e
    where
      go : (l : Limit) → node_under l n tss ds ≡ split a b → OpenPair n ds a b
      go unlimited e = term_open ds a b (sym (unlimited-node n tss ds) ∙ e)
      go (up_to g) e = view (kind_of_lem g n tss ds (split a b) e)
        where
          view : Kind g n tss ds (split a b) → OpenPair n ds a b
          view (is_term q) = term_open ds a b q
          view (is_pair none more ha hb less m) = smallest_open n ds a b ha hb less m

  -- so that what is open falls in both branches.
  pub under_branches : (ds : Decisions) → Any ds → (a b : ℕ) → node_under limit n tss ds ≡ split a b → Branches Any (open_under limit n tss) ds a b
  under_branches ds _ a b e = go limit e (split_open ds a b e)
    where
      go : (l : Limit) → node_under l n tss ds ≡ split a b → OpenPair n ds a b → Branches Any (open_under l n tss) ds a b
      go unlimited e pair =
          let at = split_at ds tss a b (sym (unlimited-node n tss ds) ∙ e) in
          record { same_good = tt; apart_good = tt; same_falls = same_fewer ds tss a b at; apart_falls = apart_fewer ds tss a b at }
      go (up_to g) e pair =
          let ha = pair.within.0.high in
          let hb = pair.within.1.high in
          record {
            same_good = tt;
            apart_good = tt;
            same_falls = undecided_falls ds (same a b ∷ ds) (same-closed ds a b) n a b ha hb pair.open' (same_closes ds a b);
            apart_falls = undecided_falls ds (apart a b ∷ ds) (apart-closed ds a b) n a b ha hb pair.open' (apart_closes ds a b);
          }

  -- A ground is one of the conditions, as it is without a limit.
  pub under_ground : (ds : Decisions) (c : ℕ) → node_under limit n tss ds ≡ ground c → node ds tss ≡ ground c
  under_ground ds c e = go limit e
    where
      go : (l : Limit) → node_under l n tss ds ≡ ground c → node ds tss ≡ ground c
      go unlimited e = sym (unlimited-node n tss ds) ∙ e
      go (up_to g) e = view (kind_of_lem g n tss ds (ground c) e)
        where
          view : Kind g n tss ds (ground c) → node ds tss ≡ ground c
          view (is_ground q) = q

  -- ---- fuel

  pub open_most : (ds : Decisions) → open_under limit n tss ds ≤ splits_under limit n tss
  open_most ds = go limit
    where
      go : (l : Limit) → open_under l n tss ds ≤ splits_under l n tss
      go unlimited = opens_all_same ds tss
      go (up_to g) = undecided_most n ds

  -- The search follows the rule,
  pub under_visits : Visits (node_under limit n tss) [] (tree_under limit n tss)
  under_visits =
      rw (tree_visit limit n tss) at
      (visit_visits (node_under limit n tss) Any (open_under limit n tss) under_branches (suc (splits_under limit n tss)) [] tt (omega (arith, open_most [])))

  -- any fuel that is enough gives the same tree,
  pub under_fuel : (fuel : ℕ) → splits_under limit n tss < fuel → visit (node_under limit n tss) fuel [] ≡ tree_under limit n tss
  under_fuel fuel h =
      fuel_never_decides (node_under limit n tss) Any (open_under limit n tss) under_branches fuel (suc (splits_under limit n tss)) [] tt
      (omega (arith, open_most []))
      (omega (arith, open_most []))
      ∙ tree_visit limit n tss

  -- and no path has more splits than there are "same" terms, or with a limit pairs of lots.
  pub under_depth : depth (tree_under limit n tss) ≤ splits_under limit n tss
  under_depth =
      omega (arith, open_most [], depth_measure (node_under limit n tss) Any (open_under limit n tss) under_branches under_visits tt)

  -- ---- met

  -- The classes of a met node meet the conditions, and keep the limit.
  met-keeps : (l : Limit) (ds : Decisions) → node_under l n tss ds ≡ met → (meets_all (smallest_lot ds) tss ≡ true) × Keeps l n (smallest_lot ds)
  met-keeps unlimited ds e = (none-taken ds tss (met-none ds tss (sym (unlimited-node n tss ds) ∙ e)), tt)
  met-keeps (up_to g) ds e = view (kind_of_lem g n tss ds met e)
    where
      view : Kind g n tss ds met → (meets_all (smallest_lot ds) tss ≡ true) × AtMost ℕ g n (smallest_lot ds)
      view (is_met_lem none few) = (none-taken ds tss none, classes-few n ds g few)

  pub under_met : is_met (tree_under limit n tss) ≡ true
      → (meets_all (smallest_lot (met_decisions (tree_under limit n tss))) tss ≡ true) × Keeps limit n (smallest_lot (met_decisions (tree_under limit n tss)))
  under_met m = met-keeps limit (met_decisions (tree_under limit n tss)) (met_rule under_visits m)

  -- ---- cannot

  module _ (n-small : n ≤ most_lots) where
    within-small : (t : Term) → TermIn n t → Small t
    within-small (same a b) w = omega (arith, w.0.high, w.1.high)
    within-small (apart a b) w = omega (arith, w.0.high, w.1.high)

    smalls : All (All Small) tss
    smalls = all_map (λ ts. all_map within-small ts) tss within

    module _ {A : Type 0} (decide : (x y : A) → Dec (x ≡ y)) (f : ℕ → A) where
      -- What keeps the limit and meets the conditions.
      abbrev Wanted : Limit → Type 0
      Wanted l = MeetsAll f tss × Keeps l n f

      no_ground : (ds : Decisions) → All Small ds → Respects f ds → (c : ℕ) → node_under limit n tss ds ≡ ground c → ¬ Wanted limit
      no_ground ds small respects c e wanted = ground_unmet f tss smalls ds small respects c (under_ground ds c e) wanted.0

      no_clique : (l : Limit) (ds : Decisions) → All Small ds → Respects f ds → node_under l n tss ds ≡ clique → ¬ Wanted l
      no_clique unlimited ds small respects e wanted = never_clique ds tss (sym (unlimited-node n tss ds) ∙ e)
      no_clique (up_to g) ds small respects e wanted = view (kind_of_lem g n tss ds clique e)
        where
          view : Kind g n tss ds clique → ⊥
          view (is_clique_lem none more all) = clique_excludes f ds small respects g n more all wanted.1

      -- Where no node is met, no assignment that keeps the limit meets the conditions, with values of any type whose equality is decidable.
      pub under_cannot : is_met (tree_under limit n tss) ≡ false → MeetsAll f tss → ¬ Keeps limit n f
      unfolding Respects
      under_cannot m meets keeps' =
          cannot_rule (node_under limit n tss) decide f (Wanted limit)
          (λ ds a b e. within-small (same a b) (split_open ds a b e).within)
          no_ground
          (no_clique limit)
          under_visits
          m
          tt
          tt
          (meets, keeps')

    -- So the search meets a node exactly where some assignment into the naturals that keeps the limit meets the conditions, one that gives lot 0 the number 0.
    pub under_decides : is_met (tree_under limit n tss) ≡ true ↔ (f : ℕ → ℕ) × Assignment f × Keeps limit n f × MeetsAll f tss
    under_decides = (
      (λ m.
          let ds = met_decisions (tree_under limit n tss) in
          let both = under_met m in
          (smallest_lot ds, zero_class ds, both.1, (all_decides (smallest_lot ds) tss).0 both.0)),
      (λ h. go (is_met (tree_under limit n tss)) refl h),
    )
      where
        go : (m : Bool) → is_met (tree_under limit n tss) ≡ m → (f : ℕ → ℕ) × Assignment f × Keeps limit n f × MeetsAll f tss → m ≡ true
        go true e h = refl
        go false e h = absurd (under_cannot ℕ_discrete h.0 e h.3 h.2)
