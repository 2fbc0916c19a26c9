-- The rule followed without fuel: which tree is visited from which decisions. `visit` with any fuel that is enough gives just this tree.
use Rattle.std.specs.Prelude.{ℕ, true, false, ◌∷◌, ◌≡◌}
use Rattle.sheet.specs.Conditions.{same, apart}
use Rattle.equality.specs.Node.{Decisions, Node, met, ground, split, clique}
use Rattle.equality.specs.Search.{Tree, met_leaf, ground_leaf, clique_leaf, one_branch, two_branches, is_met}

-- The tree is what the rule visits from the decisions on.
pub data Visits (rule : Decisions → Node) : Decisions → Tree → Type 0 where
  visits_met : {ds : Decisions} → rule ds ≡ met → Visits rule ds (met_leaf ds)
  visits_ground : {ds : Decisions} {c : ℕ} → rule ds ≡ ground c → Visits rule ds (ground_leaf c)
  visits_clique : {ds : Decisions} → rule ds ≡ clique → Visits rule ds clique_leaf
  visits_one : {ds : Decisions} {a b : ℕ} {t : Tree} → rule ds ≡ split a b → Visits rule (same a b ∷ ds) t → is_met t ≡ true
      → Visits rule ds (one_branch a b t)
  visits_two : {ds : Decisions} {a b : ℕ} {t u : Tree} → rule ds ≡ split a b → Visits rule (same a b ∷ ds) t → is_met t ≡ false
      → Visits rule (apart a b ∷ ds) u → Visits rule ds (two_branches a b t u)
