-- The classes of a path are a class map, and a class map says of every number which class it has.
use Prim.Native.Nat.{ℕ, zero, suc, ◌≤◌}
use mathlib.Core.Bool.{Bool, true, false}
use mathlib.Core.List.{List, [], ◌∷◌}
use mathlib.Core.Path.{◌≡◌, refl}
use native.Mathlib.Omega.{arith}
use borrow.Author.Tests.{leb-true, leb-false}
use lib.Dec.{leb}
use lib.ListN.{length, get_or}
use Rattle.sheet.specs.Format.{most_lots}
use Rattle.equality.specs.Node.{Decisions, class_of, classes}
use Rattle.equality.proofs.Classes.{classes-length}
use Rattle.equality.proofs.Least.{least}
use Rattle.classes.specs.Maps.{ClassesWithin, ClassMap}

-- Each lot's class is a lot,
pub classes-within : (ds : Decisions) → ClassesWithin (classes ds)
classes-within ds lot h = omega (arith, least ds lot)

-- and there is an entry for each number.
pub class_map : (ds : Decisions) → ClassMap (classes ds)
class_map ds = record { size = classes-length ds; within = classes-within ds }

-- Past the entries stands 0, so that the class of any number is a lot.
past_entries : (l : List ℕ) (i : ℕ) → length l ≤ i → get_or l i 0 ≡ 0
past_entries [] i h = refl
past_entries (x ∷ l) zero h = absurd (omega arith)
past_entries (x ∷ l) (suc i) h = past_entries l i (omega arith)

pub class_within : {cs : List ℕ} → ClassMap cs → (lot : ℕ) → class_of cs lot ≤ most_lots
class_within {cs} map lot = go (leb lot most_lots) refl
  where
    go : (p : Bool) → leb lot most_lots ≡ p → class_of cs lot ≤ most_lots
    go true e = map.within lot (leb-true lot most_lots e)
    go false e = omega (arith, past_entries cs lot (omega (arith, leb-false lot most_lots e, map.size)))
