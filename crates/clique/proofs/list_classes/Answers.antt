use Prim.Native.Nat.{ℕ, ◌+◌, ◌<◌}
use mathlib.Core.List.{List, ◌∷◌, [], ◌++◌, append_assoc, append-nil}
use mathlib.Core.Logic.{◌≢◌}
use mathlib.Core.Path.{◌≡◌}
use native.Mathlib.Numerals.{add-one}
use native.Mathlib.Omega.{arith}
use borrow.Author.Tests.{eq-eqb, ne_eqb}
use lib.ListN.{length, take, set}
use lib.Seq.{take-suc-set}
use Rattle.equality.specs.Node.{class_of}
use Rattle.limit.specs.Scan.{classes_from}
use Rattle.limit.proofs.Scan.{from_step, from_none}
use Rattle.clique.proofs.list_classes.Goals as goal

module _ (lots : List ℕ) (end lot : ℕ) (h : lot < end) (list : List ℕ) (count : ℕ) where
  -- A class goes from those that are left to the end of the list;
  one_listed : count < length list → class_of lots lot ≡ lot
      → take (count + 1) (set list count (class_of lots lot)) ++ classes_from lots end (lot + 1) ≡ take count list ++ classes_from lots end lot
  one_listed room own =
      rw (add-one count, add-one lot, own, from_step lots end lot h, eq-eqb _ _ own, take-suc-set list count lot room) (append_assoc (take count list) (lot ∷ []) _)

  -- any other lot goes nowhere.
  none_listed : class_of lots lot ≢ lot → take count list ++ classes_from lots end (lot + 1) ≡ take count list ++ classes_from lots end lot
  none_listed other =
      rw (add-one lot, from_step lots end lot h, ne_eqb _ _ other)

pub loop-lot-preserved : goal.loop-lot-preserved
loop-lot-preserved c =
    grind (arith, one_listed, none_listed)

pub returns-clause-listed : goal.returns-clause-listed
returns-clause-listed c =
    grind (arith, from_none, append-nil)
