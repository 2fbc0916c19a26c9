-- The path's splits are within the numbers, and their lots within the entries of a class map: in the numbers and in the path as the definitions
-- have it, and after a push, a turn and a drop.
use Prim.Native.Nat.{ℕ, zero, suc, ◌+◌, ◌*◌, ◌-◌, ◌≤◌, ◌<◌}
use mathlib.Core.Bool.{Bool, true, false, cond}
use mathlib.Core.List.{List, ◌∷◌}
use mathlib.Core.Path.{◌≡◌, sym, subst}
use native.Mathlib.Omega.{arith}
use borrow.Author.Count.{below_more}
use lib.Dec.{eqb}
use lib.ListN.{length}
use Rattle.sheet.specs.Format.{most_lots}
use Rattle.sheet.specs.Conditions.{same, apart, term_of}
use Rattle.buffers.specs.Lists.{All}
use Rattle.equality.specs.Opens.{Small}
use Rattle.refutation.specs.Refutation.{Split, decisions_of, turned}
use Rattle.path.specs.declared.Split as declared
use Rattle.path.specs.Paths.{split_length, same_branch, branch_in, first_lot_in, second_lot_in, split_in, path_of, PathWithin, split_of}

-- ---- in the numbers, and in the path

-- Whatever its sign, a term's lots have entries exactly where both numbers are small.
term_small : (w a b : ℕ) → a ≤ most_lots → b ≤ most_lots → Small (term_of w a b)
term_small w a b ha hb = go (eqb w same_branch)
  where
    go : (is : Bool) → Small (cond is (same a b) (apart a b))
    go true = (ha, hb)
    go false = (ha, hb)

small_term : (w a b : ℕ) → Small (term_of w a b) → (a ≤ most_lots) × (b ≤ most_lots)
small_term w a b = go (eqb w same_branch)
  where
    go : (is : Bool) → Small (cond is (same a b) (apart a b)) → (a ≤ most_lots) × (b ≤ most_lots)
    go true h = h
    go false h = h

lots-small : (l : List ℕ) (depth : ℕ) → ((i : ℕ) → i < depth → (first_lot_in l i ≤ most_lots) × (second_lot_in l i ≤ most_lots))
    → All Small (decisions_of (path_of l depth))
unfolding path_of
lots-small l zero lots = tt
lots-small l (suc i) lots =
    let here = lots i (omega arith) in
    (term_small (branch_in l i) (first_lot_in l i) (second_lot_in l i) here.0 here.1, lots-small l i (λ j h. lots j (omega arith)))

small-lots : (l : List ℕ) (depth : ℕ) → All Small (decisions_of (path_of l depth))
    → (i : ℕ) → i < depth → (first_lot_in l i ≤ most_lots) × (second_lot_in l i ≤ most_lots)
unfolding path_of
small-lots l zero small i h = absurd (omega arith)
small-lots l (suc d) small i h =
    below_more (λ k. (first_lot_in l k ≤ most_lots) × (second_lot_in l k ≤ most_lots)) d
    (small-lots l d small.1)
    (small_term (branch_in l d) (first_lot_in l d) (second_lot_in l d) small.0)
    i (omega arith)

pub within-small : {l : List ℕ} {depth : ℕ} → PathWithin l depth → All Small (decisions_of (path_of l depth))
within-small {l} {depth} h = lots-small l depth h.lots

pub small-within : (l : List ℕ) (depth : ℕ) → split_length * depth ≤ length l → All Small (decisions_of (path_of l depth)) → PathWithin l depth
small-within l depth whole small = record { within = whole; lots = small-lots l depth small }

-- ---- after what the functions do

-- No split is within any numbers.
pub within_none : (l : List ℕ) → PathWithin l 0
within_none l = record { within = omega arith; lots = λ i h. absurd (omega arith) }

-- A drop, or several.
pub within_less : {l : List ℕ} {depth : ℕ} → PathWithin l depth → (less : ℕ) → less ≤ depth → PathWithin l less
within_less h less le = record { within = omega (arith, h.within); lots = λ i lt. h.lots i (omega arith) }

-- A new top split with small lots, over a path that is within.
within_top : {l : List ℕ} {depth : ℕ} → PathWithin l depth → (l' : List ℕ) (more : ℕ) → split_length * more ≤ length l'
    → (top : Split) → Small top.decision → path_of l' more ≡ top ∷ path_of l depth → PathWithin l' more
within_top h l' more whole top small e =
    small-within l' more whole (subst (λ (p : List Split). All Small (decisions_of p)) (sym e) (small, within-small h))

-- A push, by what `push` ensures.
pub within_push : {l : List ℕ} {depth : ℕ} → PathWithin l depth → (l' : List ℕ) → length l' ≡ length l
    → split_length * depth + split_length ≤ length l → (s : declared.Split) → s.a.0 ≤ most_lots → s.b.0 ≤ most_lots
    → (r : ℕ) → r ≡ depth + 1 → path_of l' r ≡ split_of s ∷ path_of l depth → PathWithin l' r
within_push {l} {depth} h l' len room s ha hb r more e = within_top h l' r (omega arith) (split_of s) (ha, hb) e

-- A turn, by what `turn` ensures.
pub within_turn : {l : List ℕ} {depth : ℕ} → PathWithin l depth → 0 < depth → (l' : List ℕ) → length l' ≡ length l
    → path_of l' depth ≡ turned (split_in l (depth - 1)) (first_lot_in l (depth - 1)) (second_lot_in l (depth - 1)) ∷ path_of l (depth - 1)
    → PathWithin l' depth
within_turn {l} {depth} h some l' len e =
    within_top (within_less h (depth - 1) (omega arith)) l' depth (omega (arith, h.within))
    (turned (split_in l (depth - 1)) (first_lot_in l (depth - 1)) (second_lot_in l (depth - 1)))
    (h.lots (depth - 1) (omega arith))
    e
