-- The map and the pairs compute the classes and marks of a path: what each of the methods does to what it represents, and what their
-- answers say of the path.
use Prim.Native.Nat.{ℕ, zero, suc, ◌+◌, ◌*◌, ◌≤◌, ◌<◌}
use mathlib.Core.Bool.{◌||◌}
use mathlib.Core.List.{List, [], ◌∷◌}
use mathlib.Core.Path.{◌≡◌, refl, sym, ap, ap₂, subst, ◌∙◌}
use native.Mathlib.Omega.{arith}
use borrow.Author.Count.{below_more}
use native.Mathlib.Numerals.{add-one}
use lib.ListN.{length, get_or, set, length-set}
use lib.Seq.{get_or-set_same, get_or-set_other}
use Rattle.sheet.specs.Format.{most_lots}
use Rattle.sheet.specs.Conditions.{same, apart}
use Rattle.buffers.specs.Lists.{All}
use Rattle.equality.specs.Node.{Decisions, merged, class_of, classes, smallest_lot, between, marked, marked_apart}
use Rattle.equality.specs.Opens.{Small}
use Rattle.equality.proofs.Least.{least, least-again}
use Rattle.classes.specs.declared.Classes.{Classes}
use Rattle.classes.specs.Pairs.{set_apart, with_pair, PairsWithin, Untouched, only_apart, Represents}

-- ---- marks are on pairs set apart alone

pub marked_only : (cs : List ℕ) (ds : Decisions) (x y : ℕ) → marked cs ds x y ≡ marked cs (only_apart ds) x y
unfolding marked only_apart
marked_only cs [] x y = refl
marked_only cs (same a b ∷ ds) x y = marked_only cs ds x y
marked_only cs (apart a b ∷ ds) x y = ap (λ m. between cs x y a b || m) (marked_only cs ds x y)

-- ---- the pairs

-- What the bytes are from the first `count` pairs on does not matter.
pub set_apart_below : (bytes bytes' : List ℕ) (count : ℕ) → Untouched bytes bytes' count → set_apart bytes' count ≡ set_apart bytes count
unfolding set_apart
set_apart_below bytes bytes' zero below = refl
set_apart_below bytes bytes' (suc n) below =
    ap₂ ◌∷◌ (ap₂ apart (below (2 * n) (omega arith)) (below (2 * n + 1) (omega arith)))
    (set_apart_below bytes bytes' n (λ i h. below i (omega arith)))

module _ (bytes : List ℕ) (count a b : ℕ) where
  -- A pair written leaves those before it,
  pub pair_leaves : Untouched bytes (with_pair bytes count a b) count
  pair_leaves i h =
      get_or-set_other (set bytes (2 * count) a) (2 * count + 1) i b 0 (λ e. omega arith)
      ∙ get_or-set_other bytes (2 * count) i a 0 (λ e. omega arith)

  -- and stands after them.
  pair_first : 2 * count + 2 ≤ length bytes → get_or (with_pair bytes count a b) (2 * count) 0 ≡ a
  pair_first h =
      get_or-set_other (set bytes (2 * count) a) (2 * count + 1) (2 * count) b 0 (λ e. omega arith)
      ∙ get_or-set_same bytes (2 * count) a 0 (omega arith)

  pair_second : 2 * count + 2 ≤ length bytes → get_or (with_pair bytes count a b) (2 * count + 1) 0 ≡ b
  pair_second h = get_or-set_same (set bytes (2 * count) a) (2 * count + 1) b 0 (simp length-set (omega arith))

  pub set_apart_pair : 2 * count + 2 ≤ length bytes → set_apart (with_pair bytes count a b) (suc count) ≡ apart a b ∷ set_apart bytes count
  unfolding set_apart
  set_apart_pair h =
      ap₂ ◌∷◌ (ap₂ apart (pair_first h) (pair_second h)) (set_apart_below bytes (with_pair bytes count a b) count pair_leaves)

-- ---- the pairs are within the bytes, and their lots within the map's entries

-- What is so of each byte before pair n, and of its two bytes, is so of each before the next pair.
pair_more : (P : ℕ → Type 0) (n : ℕ) → ((i : ℕ) → i < 2 * n → P i) → P (2 * n) → P (2 * n + 1) → (i : ℕ) → i < 2 * suc n → P i
pair_more P n below p q i h = below_more P (2 * n + 1) (below_more P (2 * n) below p) q i (omega arith)

-- In a path whose lots have entries, so have the lots of the pairs.
small_only : (ds : Decisions) → All Small ds → All Small (only_apart ds)
unfolding only_apart
small_only [] h = tt
small_only (same a b ∷ ds) h = small_only ds h.1
small_only (apart a b ∷ ds) h = (h.0, small_only ds h.1)

small_bytes : (bytes : List ℕ) (count : ℕ) → All Small (set_apart bytes count) → (i : ℕ) → i < 2 * count → get_or bytes i 0 ≤ most_lots
unfolding set_apart
small_bytes bytes zero h i lt = absurd (omega arith)
small_bytes bytes (suc n) h i lt =
    pair_more (λ j. get_or bytes j 0 ≤ most_lots) n (small_bytes bytes n h.1) h.0.0 h.0.1 i lt

-- ---- what the methods do to the path that is represented

-- No decision, by what `new` ensures.
pub new_represents : (c : Classes) (bytes : List ℕ) → c.lots ≡ classes [] → Represents c bytes 0 []
unfolding set_apart only_apart
new_represents c bytes e = record { lots = e; pairs = refl }

module _ {c : Classes} {bytes : List ℕ} {count : ℕ} {ds : Decisions} (r : Represents c bytes count ds) where
  -- A pair set same, by what `join` ensures of its map.
  pub join_represents : (c' : Classes) (a b : ℕ) → c'.lots ≡ merged (class_of c.lots a) (class_of c.lots b) c.lots
      → Represents c' bytes count (same a b ∷ ds)
  unfolding classes only_apart
  join_represents c' a b e =
      record { lots = e ∙ ap (λ (l : List ℕ). merged (class_of l a) (class_of l b) l) r.lots; pairs = r.pairs }

  -- A pair set apart, by what `set_apart` ensures of its bytes.
  pub apart-represents : (a b : ℕ) → 2 * count + 2 ≤ length bytes → Represents c (with_pair bytes count a b) (count + 1) (apart a b ∷ ds)
  unfolding classes only_apart
  apart-represents a b h =
      record { lots = r.lots; pairs = rw (add-one count) (ap (λ (earlier : Decisions). apart a b ∷ earlier) r.pairs ∙ sym (set_apart_pair bytes count a b h)) }

  -- Whatever a branch writes after the pairs, the path is represented still.
  pub below_represents : (bytes' : List ℕ) → Untouched bytes bytes' count → Represents c bytes' count ds
  below_represents bytes' below = record { lots = r.lots; pairs = r.pairs ∙ sym (set_apart_below bytes bytes' count below) }

  -- The pairs are within the bytes and the entries, as `marked_apart` asks, where the bytes are long enough and the path's lots have entries.
  pub represented_within : All Small ds → 2 * count ≤ length bytes → PairsWithin bytes count
  represented_within small h =
      record { within = h; lots = small_bytes bytes count (subst (All Small) r.pairs (small_only ds small)) }

  -- ---- what the answers say of it

  -- `smallest_lot` answers the smallest lot,
  pub smallest_says : (lot : ℕ) → class_of c.lots lot ≡ smallest_lot ds lot
  smallest_says lot = ap (λ (l : List ℕ). class_of l lot) r.lots

  -- and `marked_apart` whether the classes are marked apart.
  pub marked-says : (a b : ℕ) → marked c.lots (set_apart bytes count) (class_of c.lots a) (class_of c.lots b) ≡ marked_apart ds a b
  marked-says a b =
      rw (r.lots, ← r.pairs) (sym (marked_only (classes ds) ds (smallest_lot ds a) (smallest_lot ds b)))

  -- A lot's entry is the least lot of its class: it is in the class, and at most any lot of it.
  pub entry_in_class : (lot : ℕ) → class_of c.lots (class_of c.lots lot) ≡ class_of c.lots lot
  entry_in_class lot = rw r.lots (least-again ds lot)

  pub entry_least : (lot other : ℕ) → class_of c.lots other ≡ class_of c.lots lot → class_of c.lots lot ≤ other
  entry_least lot other e = omega (arith, smallest_says other, least ds other)
