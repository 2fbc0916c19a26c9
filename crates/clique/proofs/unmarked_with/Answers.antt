use Prim.Native.Nat.{ℕ, ◌+◌, ◌<◌}
use mathlib.Core.Bool.{Bool, true, false}
use mathlib.Core.List.{List}
use mathlib.Core.Logic.{◌≢◌}
use mathlib.Core.Path.{◌≡◌, ◌∙◌}
use native.Mathlib.Numerals.{add-one}
use native.Mathlib.Omega.{arith}
use borrow.Author.Tests.{eq-eqb, ne_eqb}
use Rattle.equality.specs.Node.{class_of, Node, split}
use Rattle.limit.specs.Rule.{split_with}
use Rattle.limit.specs.Scan.{classes_from}
use Rattle.limit.proofs.Scan.{with_class, with_other, with_end}
use Rattle.clique.proofs.unmarked_with.Goals as goal

module _ (marks : ℕ → ℕ → Bool) (lots : List ℕ) (end x y : ℕ) (h : y < end) where
  -- A class is the one found, where it isn't marked;
  unmarked : class_of lots y ≡ y → marks x (class_of lots y) ≡ false → (others : Node) → split_with marks x (classes_from lots end y) others ≡ split x (class_of lots y)
  unmarked own e others = let e' : marks x y ≡ false = rw own at e in with_class lots marks end x y others h (eq-eqb _ _ own) ∙ rw (e', own)

  -- else it is passed,
  marked : class_of lots y ≡ y → marks x (class_of lots y) ≡ true → (others : Node) → split_with marks x (classes_from lots end y) others ≡ split_with marks x (classes_from lots end (y + 1)) others
  marked own e others = let e' : marks x y ≡ true = rw own at e in with_class lots marks end x y others h (eq-eqb _ _ own) ∙ rw (e', add-one y)

  -- and so is any lot that is the smallest of no class.
  passed : class_of lots y ≢ y → (others : Node) → split_with marks x (classes_from lots end y) others ≡ split_with marks x (classes_from lots end (y + 1)) others
  passed other others = with_other lots marks end x y others h (ne_eqb _ _ other) ∙ rw (add-one y)

pub returns-then-not-is_marked : goal.returns-then-not-is_marked
returns-then-not-is_marked c =
    grind (arith, unmarked)

pub loop-y-preserved : goal.loop-y-preserved
loop-y-preserved c =
    grind (arith, marked, passed)

pub returns : goal.returns
returns c =
    grind (arith, with_end)
