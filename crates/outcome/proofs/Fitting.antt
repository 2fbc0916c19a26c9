-- How many records a search has, and that they fit their bytes.
use Prim.Native.Nat.{ℕ, suc, ◌+◌, ◌*◌, ◌≤◌}
use mathlib.Core.List.{List, ◌∷◌}
use mathlib.Core.Path.{◌≡◌, refl, ap, ◌∙◌}
use native.Mathlib.Omega.{arith}
use lib.ListN.{length, length-append}
use Rattle.sheet.specs.Format.{most_conditions, lot_count}
use Rattle.sheet.specs.Checks.{Accepted}
use Rattle.sheet.specs.Conditions.{Term, same, conditions, TermIn}
use Rattle.buffers.specs.Lists.{All}
use Rattle.buffers.proofs.Lists.{all_both}
use Rattle.sheet.proofs.Accepted.{sound}
use Rattle.sheet.proofs.Conditions.{conditions-length, conditions_in}
use Rattle.equality.specs.Node.{Decisions, Node, split}
use Rattle.equality.specs.Search.{Tree, met_leaf, ground_leaf, clique_leaf, one_branch, two_branches, node_count}
use Rattle.equality.proofs.Rule.{TakenAt, ground_at}
use Rattle.equality.specs.Visits.{Visits, visits_met, visits_ground, visits_clique, visits_one, visits_two}
use Rattle.limit.specs.Meaning.{Limit}
use Rattle.limit.specs.Rule.{node_under}
use Rattle.limit.proofs.Under.{split_open, under_ground, under_visits}
use Rattle.store.specs.Records.{most_nodes, record_length, encode_all, Fits}
use Rattle.store.proofs.Codec.{encode_all-length}
use Rattle.outcome.specs.Nodes.{records}
use Rattle.outcome.specs.Limited.{tree_of}

-- A search visits a node at least.
pub node-count : (t : Tree) → 1 ≤ node_count t
unfolding node_count
node-count (met_leaf ds) = omega arith
node-count (ground_leaf c) = omega arith
node-count clique_leaf = omega arith
node-count (one_branch a b t) = omega arith
node-count (two_branches a b t u) = omega arith

-- A search writes as many records as it visits nodes.
pub records-count : (at : ℕ) (t : Tree) → length (records at t) ≡ node_count t
unfolding records node_count
records-count at (met_leaf ds) = refl
records-count at (ground_leaf c) = refl
records-count at clique_leaf = refl
records-count at (one_branch a b t) = omega (arith, records-count (at + 1) t)
records-count at (two_branches a b t u) =
    omega (arith, length-append (records (at + 1) t) (records (at + 1 + node_count t) u), records-count (at + 1) t, records-count (at + 1 + node_count t) u)

pub bytes_count : (at : ℕ) (t : Tree) → length (encode_all (records at t)) ≡ record_length * node_count t
bytes_count at t = encode_all-length (records at t) ∙ ap (λ (n : ℕ). record_length * n) (records-count at t)

module _ (limit : Limit) (s : List ℕ) (ok : Accepted s) where
  -- The rule that the search follows.
  abbrev rule : Decisions → Node
  rule = node_under limit (lot_count s) (conditions s)

  split_in_lem : (ds : Decisions) (a b : ℕ) → rule ds ≡ split a b → TermIn (lot_count s) (same a b)
  split_in_lem ds a b e = (split_open limit (lot_count s) (conditions s) (conditions_in s ok) ds a b e).within

  -- The records of a tree from `at` on fit where their numbers do,
  tree_fits : {ds : Decisions} {t : Tree} → Visits rule ds t → (at : ℕ) → at + node_count t ≤ suc most_nodes → All Fits (records at t)
  unfolding records node_count
  tree_fits (visits_met e) at h = (tt, tt)
  tree_fits (visits_clique e) at h = (tt, tt)
  tree_fits {ds} (visits_ground {c = c} e) at h =
      let taken = (ground_at ds (conditions s) c (under_ground limit (lot_count s) (conditions s) (conditions_in s ok) ds c e)).taken in
      (omega (arith, numbered taken), tt)
    where
      numbered : {ts : List Term} → TakenAt ds 1 (conditions s) c ts → c ≤ most_conditions
      numbered {ts} taken =
          let count : length (conditions s) ≡ length taken.front + suc (length taken.back) =
          ap length taken.place ∙ length-append taken.front (ts ∷ taken.back) in
          omega (arith, taken.number, count, conditions-length s, (sound s ok).header.conditions)
  tree_fits {ds} (visits_one {a = a} {b = b} e v q) at h =
      let pair = split_in_lem ds a b e in
      (omega (arith, pair.0.high, pair.1.high, (sound s ok).header.lots), tree_fits v (at + 1) (omega arith))
  tree_fits {ds} (visits_two {a = a} {b = b} {t = t} {u = u} e v q w) at h =
      let pair = split_in_lem ds a b e in (
        omega (arith, node-count u, pair.0.high, pair.1.high, (sound s ok).header.lots),
        all_both Fits (records (at + 1) t) (records (at + 1 + node_count t) u) (tree_fits v (at + 1) (omega arith)) (tree_fits w (at + 1 + node_count t) (omega arith)),
      )

  -- and those of the whole search where it has at most 65,535 nodes.
  pub search_fits : node_count (tree_of limit s) ≤ most_nodes → All Fits (records 1 (tree_of limit s))
  search_fits few = tree_fits (under_visits limit (lot_count s) (conditions s) (conditions_in s ok)) 1 (omega arith)
