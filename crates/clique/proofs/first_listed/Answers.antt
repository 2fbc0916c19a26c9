use Prim.Native.Nat.{ℕ, ◌+◌, ◌-◌, ◌≤◌, ◌<◌}
use mathlib.Core.Bool.{Bool}
use mathlib.Core.List.{List}
use mathlib.Core.Path.{◌≡◌}
use native.Mathlib.Numerals.{add-one}
use native.Mathlib.Omega.{arith}
use lib.ListN.{length, take, drop, length-drop, drop_of_length-le}
use lib.Seq.{take_all, drop-cons}
use Rattle.equality.specs.Node.{class_of, clique}
use Rattle.limit.specs.Rule.{split_with, clique_or_split}
use Rattle.clique.proofs.first_listed.Goals as goal

module _ (marks : ℕ → ℕ → Bool) (list : List ℕ) (i : ℕ) where
  -- The pairs of the class at a place are looked at, and then those of the classes behind it, as the code cuts them off.
  scan_place : i < length list
      → clique_or_split marks (drop i list) ≡ split_with marks (class_of list i) (take (length list - (i + 1)) (drop (i + 1) list)) (clique_or_split marks (drop (i + 1) list))
  unfolding clique_or_split
  scan_place h =
      let behind : take (length list - (i + 1)) (drop (i + 1) list) ≡ drop (i + 1) list = take_all _ _ (omega (arith, length-drop (i + 1) list)) in
      rw (behind, drop-cons list i 0 h, add-one i)

  scan_no_place : length list ≤ i → clique_or_split marks (drop i list) ≡ clique
  unfolding clique_or_split
  scan_no_place h = rw (drop_of_length-le list h)

pub returns-in-Some : goal.returns-in-Some
returns-in-Some c =
    grind (arith, scan_place)

pub loop-low-preserved : goal.loop-low-preserved
loop-low-preserved c =
    grind (arith, scan_place)

pub returns : goal.returns
returns c =
    grind (arith, scan_no_place)
