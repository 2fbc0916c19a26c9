use Prim.Native.Nat.{ℕ, ◌+◌, ◌≤◌, ◌<◌}
use mathlib.Core.Bool.{Bool, true, false}
use mathlib.Core.List.{List}
use mathlib.Core.Path.{◌≡◌}
use native.Mathlib.Numerals.{add-one}
use native.Mathlib.Omega.{arith}
use lib.ListN.{length, drop, drop_of_length-le}
use lib.Seq.{drop-cons}
use Rattle.equality.specs.Node.{class_of, Node, split}
use Rattle.limit.specs.Rule.{split_with}
use Rattle.clique.proofs.unmarked_in.Goals as goal

module _ (marks : ℕ → ℕ → Bool) (x : ℕ) (list : List ℕ) (i : ℕ) where
  -- The class at a place is the one found, where it isn't marked;
  unmarked : i < length list → marks x (class_of list i) ≡ false → (others : Node) → split_with marks x (drop i list) others ≡ split x (class_of list i)
  unfolding split_with
  unmarked h e others = rw (drop-cons list i 0 h, e)

  -- else those behind it are looked at,
  marked : i < length list → marks x (class_of list i) ≡ true → (others : Node) → split_with marks x (drop i list) others ≡ split_with marks x (drop (i + 1) list) others
  unfolding split_with
  marked h e others = rw (drop-cons list i 0 h, e, add-one i)

  -- and behind the last there is none.
  none_left : length list ≤ i → (others : Node) → split_with marks x (drop i list) others ≡ others
  unfolding split_with
  none_left h others = rw (drop_of_length-le list h)

pub returns-then-not-is_marked : goal.returns-then-not-is_marked
returns-then-not-is_marked c =
    grind (arith, unmarked)

pub loop-y-preserved : goal.loop-y-preserved
loop-y-preserved c =
    grind (arith, marked)

pub returns : goal.returns
returns c =
    grind (arith, none_left)
