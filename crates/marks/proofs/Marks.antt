-- Laws of a table of marks, for whoever marks classes in it and asks.
use Prim.Native.Nat.{ℕ, ◌*◌, ◌+◌, ◌≤◌, ◌<◌}
use mathlib.Core.Bool.{Bool, true, false, cond, ◌||◌}
use mathlib.Core.List.{List, [], ◌∷◌}
use mathlib.Core.Logic.{◌≢◌}
use mathlib.Core.Path.{◌≡◌, refl, sym, ap, subst, ◌∙◌}
use native.Mathlib.Numerals.{add-one}
use native.Mathlib.Omega.{arith}
use borrow.Author.Tests.{ltb-true, ltb-false}
use lib.Dec.{ltb}
use lib.ListN.{get_or}
use Rattle.sheet.specs.Format.{most_lots}
use Rattle.sheet.specs.Conditions.{same, apart}
use Rattle.equality.specs.Node.{Decisions, class_of, between, marked}
use Rattle.equality.proofs.Truth.{marked_sym}
use Rattle.classes.specs.declared.Classes.{Classes}
use Rattle.classes.specs.Pairs.{set_apart, PairsWithin, only_apart, Represents}
use Rattle.classes.proofs.Path.{marked_only, set_apart_below}
use Rattle.marks.specs.Marks.{bit_at, mark_at, Unmarked, Marks, Outside, MarkedToo}

-- ---- decision by decision

module _ {at : ℕ} {cs : List ℕ} where
  -- No decision marks nothing,
  pub marks_none : {l : List ℕ} → Unmarked l at → Marks l at cs []
  unfolding marked
  marks_none u = record { says = u.none }

  -- a pair set same marks nothing more,
  pub marks_same : {l : List ℕ} {ds : Decisions} (a b : ℕ) → Marks l at cs ds → Marks l at cs (same a b ∷ ds)
  unfolding marked
  marks_same a b m = record { says = m.says }

  -- and a pair set apart the classes of its lots.
  pub marks_apart : {before after : List ℕ} {ds : Decisions} (a b : ℕ) → Marks before at cs ds → MarkedToo before after at (class_of cs a) (class_of cs b)
      → Marks after at cs (apart a b ∷ ds)
  unfolding marked
  marks_apart a b m t =
      record { says = λ x y hx hy. t.bits x y hx hy ∙ ap (λ (p : Bool). between cs x y a b || p) (m.says x y hx hy) }

-- Which of the decisions are "apart" is all that matters.
marks_only : {l : List ℕ} {at : ℕ} {cs : List ℕ} (ds : Decisions) → Marks l at cs (only_apart ds) → Marks l at cs ds
marks_only {cs = cs} ds m = record { says = λ x y hx hy. m.says x y hx hy ∙ sym (marked_only cs ds x y) }

-- ---- what the table says

-- Two classes are marked in whichever order they are asked for.
pub marks_at : {l : List ℕ} {at : ℕ} {cs : List ℕ} {ds : Decisions} → Marks l at cs ds → (x y : ℕ) → x ≤ most_lots → y ≤ most_lots → x ≢ y
    → mark_at l at x y ≡ marked cs ds x y
marks_at {l} {at} {cs} {ds} m x y hx hy n = go (ltb x y) refl
  where
    back : (q : Bool) → ltb y x ≡ q → y ≤ x → cond q (bit_at l at y x) false ≡ marked cs ds x y
    back true f h = m.says y x (ltb-true y x f) hx ∙ marked_sym cs ds y x
    back false f h = absurd (n (omega (arith, ltb-false y x f)))

    go : (p : Bool) → ltb x y ≡ p → cond p (bit_at l at x y) (cond (ltb y x) (bit_at l at y x) false) ≡ marked cs ds x y
    go true e = m.says x y (ltb-true x y e) hy
    go false e = back (ltb y x) refl (ltb-false x y e)

-- The table of a path's pairs is the path's.
pub marks_represent : {map : Classes} {bytes : List ℕ} {count : ℕ} {ds : Decisions} → Represents map bytes count ds
    → {l : List ℕ} {at : ℕ} → Marks l at map.lots (set_apart bytes count) → Marks l at map.lots ds
marks_represent {map} {ds = ds} r {l} {at} m = marks_only ds (subst (λ (es : Decisions). Marks l at map.lots es) (sym r.pairs) m)

-- ---- the pairs in front of it

module _ {before after : List ℕ} {at : ℕ} (o : Outside before after at) (count : ℕ) (h : 2 * count ≤ at) where
  -- They are as they were, and so is what they say.
  pub outside-front : (i : ℕ) → i < 2 * count → get_or after i 0 ≡ get_or before i 0
  outside-front i lt = o.front i (omega arith)

  pub outside-pairs : set_apart after count ≡ set_apart before count
  outside-pairs = set_apart_below before after count outside-front

  pub outside-within : PairsWithin before count → PairsWithin after count
  outside-within w = record { within = omega (arith, o.size, w.within); lots = λ i lt. rw (outside-front i lt) (w.lots i lt) }

-- The next of the pairs is marked, as it stands while the table is changed.
pub marks_pair : {before between after : List ℕ} {at : ℕ} {cs : List ℕ} (i : ℕ) → Outside before between at → 2 * (i + 1) ≤ at
    → Marks between at cs (set_apart before i)
    → MarkedToo between after at (class_of cs (get_or between (2 * i) 0)) (class_of cs (get_or between (2 * i + 1) 0))
    → Marks after at cs (set_apart before (i + 1))
unfolding set_apart
marks_pair {before} i o h m t =
    let first = o.front (2 * i) (omega arith) in
    let second = o.front (2 * i + 1) (omega arith) in
    rw (add-one i) (marks_apart (get_or before (2 * i) 0) (get_or before (2 * i + 1) 0) m (rw (first, second) at t))
