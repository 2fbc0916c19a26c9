-- How limits compare: one above n changes nothing, and what is met under a limit is met under a greater one and without one.
use Prim.Native.Nat.{ℕ, zero, suc, ◌+◌, ◌≤◌, ◌<◌}
use mathlib.Core.Bool.{Bool, true, false, cond}
use mathlib.Core.List.{List, [], ◌∷◌}
use mathlib.Core.Path.{◌≡◌, sym, ap, fun_ext, ◌∙◌}
use native.Mathlib.Omega.{arith}
use borrow.Author.Tests.{le-leb}
use lib.Dec.{eqb}
use lib.ListN.{length}
use Rattle.sheet.specs.Format.{most_lots}
use Rattle.sheet.specs.Conditions.{Term, TermIn}
use Rattle.buffers.specs.Lists.{All}
use Rattle.equality.specs.Node.{Decisions, class_of, classes, taken, Node, met, node_of}
use Rattle.equality.specs.Search.{is_met, visit, all_same_terms, search_tree}
use Rattle.limit.specs.Meaning.{Limit, unlimited, up_to, Keeps}
use Rattle.limit.specs.Rule.{smallest_from, classes_left, none_taken, node_under}
use Rattle.limit.specs.Search.{pair_count, tree_under}
use Rattle.limit.proofs.Under.{under_fuel, under_decides}

-- ---- a limit above n

left_most : (cs : List ℕ) (count from : ℕ) → length (smallest_from cs count from) ≤ count
unfolding smallest_from
left_most cs zero from = omega arith
left_most cs (suc count) from = go (eqb (class_of cs from) from) (left_most cs count (suc from))
  where
    go : (p : Bool) → length (smallest_from cs count (suc from)) ≤ count
        → length (cond p (from ∷ smallest_from cs count (suc from)) (smallest_from cs count (suc from))) ≤ suc count
    go true h = omega arith
    go false h = omega arith

module _ (g n : ℕ) (slack : n < g) (tss : List (List Term)) where
  slack_met : (ds : Decisions) → none_taken (up_to g) n ds ≡ met
  unfolding none_taken classes_left
  slack_met ds = rw (le-leb (length (smallest_from (classes ds) (suc n) 0)) g (omega (arith, left_most (classes ds) (suc n) 0)))

  -- Each node is what it is without a limit,
  pub slack_node : (ds : Decisions) → node_under (up_to g) n tss ds ≡ node_under unlimited n tss ds
  unfolding node_under none_taken
  slack_node ds = ap (λ (otherwise : Node). node_of otherwise ds (taken ds 1 tss)) (slack_met ds)

  -- and so are all that are visited.
  pub slack_tree : All (All (TermIn n)) tss → tree_under (up_to g) n tss ≡ search_tree tss
  slack_tree within =
      let fuel = suc (pair_count n + all_same_terms tss) in
      sym (under_fuel (up_to g) n tss within fuel (omega arith))
      ∙ ap (λ (rule : Decisions → Node). visit rule fuel []) (fun_ext slack_node)
      ∙ under_fuel unlimited n tss within fuel (omega arith)

-- ---- a greater limit

-- A limit admits at least what another does.
abbrev pub Looser : Limit → Limit → Type 0
Looser unlimited limit = Unit {0}
Looser (up_to g') unlimited = ⊥
Looser (up_to g') (up_to g) = g ≤ g'

pub looser_keeps : {A : Type 0} (looser limit : Limit) → Looser looser limit → (n : ℕ) (f : ℕ → A) → Keeps limit n f → Keeps looser n f
looser_keeps unlimited limit h n f keeps' = tt
looser_keeps (up_to g') unlimited h n f keeps' = absurd h
looser_keeps (up_to g') (up_to g) h n f keeps' =
    let fewer : length keeps'.values ≤ g = keeps'.few in
    record { values = keeps'.values; few = omega arith; has = keeps'.has }

pub looser_met : (n : ℕ) → n ≤ most_lots → (tss : List (List Term)) → All (All (TermIn n)) tss → (looser limit : Limit) → Looser looser limit
    → is_met (tree_under limit n tss) ≡ true → is_met (tree_under looser n tss) ≡ true
looser_met n small tss within looser limit h m =
    let found = (under_decides limit n tss within small).0 m in
    (under_decides looser n tss within small).1 (found.0, found.1, looser_keeps looser limit h n found.0 found.2, found.3)
