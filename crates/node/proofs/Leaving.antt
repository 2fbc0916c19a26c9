-- What a node is under a limit, by what it is without one, and what a split says of its apart branch, whichever limit there is: on a term it goes on in the
-- condition, on a pair of classes after the pair.
use Prim.Native.Nat.{ℕ}
use mathlib.Core.List.{List, ◌∷◌}
use mathlib.Core.Path.{◌≡◌, refl, sym, subst, ◌∙◌}
use native.Mathlib.Omega.{arith}
use Rattle.std.specs.Prelude.{Option, Some, None}
use Rattle.sheet.specs.Conditions.{apart, conditions}
use Rattle.equality.specs.Node.{Decisions, Taken, no_condition, takes, taken, Node, met, ground, split, node}
use Rattle.limit.specs.Meaning.{Limit, unlimited, up_to}
use Rattle.limit.specs.Rule.{none_taken, node_under}
use Rattle.limit.specs.Scan.{ResumesAfter, limit_in}
use Rattle.limit.proofs.Resumes.{under_takes, pair_resumes}
use Rattle.node.specs.declared.Split as pair
use Rattle.node.specs.declared.Untaken.{Untaken}
use Rattle.node.specs.declared.Untaken.TheVariants.{Met, Split, Clique}
use Rattle.scan.specs.declared.Place.{Place}
use Rattle.scan.specs.declared.Place.TheVariants.{Scan, Within, Nowhere, After}
use Rattle.scan.specs.Place.{ResumesPair, Resumes, Stands}
use Rattle.node.specs.Found.{untaken_as, WithinTerm, PairSplit, SplitLeaves, PairLeaves}
use Rattle.node.proofs.Resuming.{none-met}

-- A node that stands at a place that is known stands there.
pub stands : (limit : Limit) (n : ℕ) (s : List ℕ) (ds : Decisions) {p q : Place} → p ≡ q → Stands limit n s p ds → Stands limit n s q ds
stands limit n s ds e w = subst (λ (p : Place). Stands limit n s p ds) e w

-- ---- a condition is taken

pub term_leaves : (limit : Limit) (n : ℕ) (s : List ℕ) (ds : Decisions) (on : pair.Split)
    → WithinTerm s on.apart (apart on.a.0 on.b.0 ∷ ds) → SplitLeaves limit n s on ds
term_leaves limit n s ds on leaves = go on.apart leaves
  where
    go : (p : Place) → WithinTerm s p (apart on.a.0 on.b.0 ∷ ds) → Resumes limit n s p (apart on.a.0 on.b.0 ∷ ds)
    go Scan leaves = absurd leaves
    go (Within c r) leaves = leaves
    go Nowhere leaves = absurd leaves
    go (After x y) leaves = absurd leaves

-- ---- what a node is under a limit, by what it is without one

module _ (limit : Limit) (n : ℕ) (s : List ℕ) (ds : Decisions) where
  -- One that is not met takes a condition, and is the same under every limit:
  taken_under : (k : Node) → (k ≡ met → ⊥) → k ≡ node ds (conditions s) → node_under limit n (conditions s) ds ≡ k
  taken_under k some e = go (taken ds 1 (conditions s)) refl
    where
      go : (w : Taken) → taken ds 1 (conditions s) ≡ w → node_under limit n (conditions s) ds ≡ k
      go no_condition q = absurd (some (e ∙ sym (none-met ds s q)))
      go (takes c ts) q = under_takes limit n (conditions s) ds c ts q ∙ sym e

  -- a ground,
  pub ground_under : (c : ℕ) → ground c ≡ node ds (conditions s) → node_under limit n (conditions s) ds ≡ ground c
  ground_under c e =
      taken_under (ground c)
      (λ q. let z : ◌≡◌ {A = ℕ} 0 1 = cc in
      omega arith)
      e

  -- a split.
  pub split_under : (a b : ℕ) → split a b ≡ node ds (conditions s) → node_under limit n (conditions s) ds ≡ split a b
  split_under a b e =
      taken_under (split a b)
      (λ q. let z : ◌≡◌ {A = ℕ} 0 1 = cc in
      omega arith)
      e

-- ---- none is taken

pair_leaves : (g n : ℕ) (s : List ℕ) (ds : Decisions) → taken ds 1 (conditions s) ≡ no_condition → (k : Untaken) → PairSplit k
    → untaken_as k ≡ none_taken (up_to g) n ds → PairLeaves (up_to g) n s k ds
pair_leaves g n s ds none Met pair e = tt
pair_leaves g n s ds none (Split on) pair e = rw pair (pair_resumes ds on.a.0 on.b.0 g n (conditions s) none (sym e))
pair_leaves g n s ds none Clique pair e = tt

-- The node, and what it says of its apart branch, by the limit that is asked for: with one,
pub limited-node : {l : Option ℕ} (g n : ℕ) (s : List ℕ) (ds : Decisions) → l ≡ Some g → taken ds 1 (conditions s) ≡ no_condition → (k : Untaken) → PairSplit k
    → untaken_as k ≡ none_taken (up_to g) n ds → (untaken_as k ≡ none_taken (limit_in l) n ds) × PairLeaves (limit_in l) n s k ds
limited-node g n s ds is none k pair e = rw is (e, pair_leaves g n s ds none k pair e)

-- and without one.
pub no_limit_met : {l : Option ℕ} (n : ℕ) (ds : Decisions) → l ≡ None → met ≡ none_taken (limit_in l) n ds
unfolding none_taken
no_limit_met n ds is = rw is

-- ---- a node that is looked at after a pair

-- It takes no condition,
pub pair_none : (limit : Limit) (n : ℕ) (s : List ℕ) (x y : ℕ) (ds : Decisions) → ResumesPair limit n s x y ds → taken ds 1 (conditions s) ≡ no_condition
pair_none unlimited n s x y ds w = absurd w
pair_none (up_to g) n s x y ds w = w.none

-- and no pair up to that one is unmarked, under the limit that is asked for.
pub resumes-limited : {l : Option ℕ} (g n : ℕ) (s : List ℕ) (x y : ℕ) (ds : Decisions) → l ≡ Some g → ResumesPair (limit_in l) n s x y ds
    → ResumesAfter g n (conditions s) x y ds
resumes-limited g n s x y ds is w = rw is at w
