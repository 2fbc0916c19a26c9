-- A loop over the path's splits, from the root on or from the latest: what a split adds to the decisions above it, and to the marks.
use Prim.Native.Nat.{ℕ, zero, suc, ◌+◌, ◌≤◌, ◌<◌}
use mathlib.Core.Bool.{Bool, true, false, cond, not, ◌||◌}
use mathlib.Core.List.{List, [], ◌∷◌}
use mathlib.Core.Path.{◌≡◌, refl, sym, ap, ◌∙◌}
use native.Mathlib.Omega.{arith}
use borrow.Author.Tests.{ne_eqb}
use lib.Bits.{bit_xor}
use lib.Dec.{eqb, eqb-suc-zero}
use lib.ListN.{length}
use Rattle.sheet.specs.Conditions.{Term, same, apart}
use Rattle.equality.specs.Node.{Decisions, class_of, between, marked}
use Rattle.classes.proofs.Exclusive.{neither_way}
use Rattle.refutation.specs.Refutation.{decisions_of}
use Rattle.path.specs.declared.Pair.{Pair}
use Rattle.path.specs.Paths.{split_in, path_of, decision_of}
use Rattle.leaves.specs.Terms.{latest_between}

-- The decisions of the first n splits.
abbrev pub decided : List ℕ → ℕ → Decisions
decided l n = decisions_of (path_of l n)

pub decided_none : (l : List ℕ) → decided l 0 ≡ []
unfolding path_of
decided_none l = refl

-- The last of the first n splits is split i, and has this pair.
module _ (l : List ℕ) (n i : ℕ) (last : n ≡ suc i) (pair : Pair) (e : decision_of pair ≡ (split_in l i).decision) where
  with_split : (t : Term) → decision_of pair ≡ t → decided l n ≡ t ∷ decided l i
  unfolding path_of
  with_split t q = ap (decided l) last ∙ ap (λ (u : Term). u ∷ decided l i) (sym e ∙ q)

  pub with_same : pair.same ≡ true → decided l n ≡ same pair.a.0 pair.b.0 ∷ decided l i
  with_same q = with_split (same pair.a.0 pair.b.0) (simp q)

  pub with_apart : pair.same ≡ false → decided l n ≡ apart pair.a.0 pair.b.0 ∷ decided l i
  with_apart q = with_split (apart pair.a.0 pair.b.0) (simp q)

decided_length : (l : List ℕ) (n : ℕ) → length (decided l n) ≡ n
unfolding path_of
decided_length l zero = refl
decided_length l (suc n) = ap suc (decided_length l n)

-- ---- the latest split between the classes x and y

-- There is one exactly where they are marked, and it is one of the decisions.
latest_marks : (cs : List ℕ) (x y : ℕ) (ds : Decisions) → not (eqb (latest_between cs x y ds) 0) ≡ marked cs ds x y
unfolding latest_between marked
latest_marks cs x y [] = refl
latest_marks cs x y (same a b ∷ ds) = latest_marks cs x y ds
latest_marks cs x y (apart a b ∷ ds) = go (between cs x y a b) (latest_marks cs x y ds)
  where
    go : (p : Bool) → not (eqb (latest_between cs x y ds) 0) ≡ marked cs ds x y
        → not (eqb (cond p (suc (length ds)) (latest_between cs x y ds)) 0) ≡ (p || marked cs ds x y)
    go true h = simp (eqb-suc-zero (length ds))
    go false h = h

latest_within : (cs : List ℕ) (x y : ℕ) (ds : Decisions) → latest_between cs x y ds ≤ length ds
unfolding latest_between
latest_within cs x y [] = omega arith
latest_within cs x y (same a b ∷ ds) = omega (arith, latest_within cs x y ds)
latest_within cs x y (apart a b ∷ ds) = go (between cs x y a b) (latest_within cs x y ds)
  where
    go : (p : Bool) → latest_between cs x y ds ≤ length ds → cond p (suc (length ds)) (latest_between cs x y ds) ≤ suc (length ds)
    go true h = omega arith
    go false h = omega arith

-- So by the split that a walk over the first n splits finds.
module _ (cs l : List ℕ) (x y n i : ℕ) (e : latest_between cs x y (decided l n) ≡ i + 1) where
  pub found_marks : marked cs (decided l n) x y ≡ true
  found_marks = sym (latest_marks cs x y (decided l n)) ∙ simp (e, ne_eqb (i + 1) 0 (λ z. omega arith))

  pub found_within : i < n
  found_within = omega (arith, e, latest_within cs x y (decided l n), decided_length l n)

module _ (cs l : List ℕ) (x y : ℕ) where
  -- Of the first n splits.
  abbrev pub latest_of : ℕ → ℕ
  latest_of n = latest_between cs x y (decided l n)

  pub latest_none : latest_of 0 ≡ 0
  unfolding path_of latest_between
  latest_none = refl

  module _ (n i : ℕ) (last : n ≡ suc i) (pair : Pair) (e : decision_of pair ≡ (split_in l i).decision) where
    -- A split set same is none;
    pub same-passed : pair.same ≡ true → latest_of n ≡ latest_of i
    unfolding latest_between
    same-passed q = ap (latest_between cs x y) (with_same l n i last pair e q)

    -- one set apart is one where its lots are between them.
    apart_latest : pair.same ≡ false → latest_of n ≡ cond (between cs x y pair.a.0 pair.b.0) (suc (length (decided l i))) (latest_of i)
    unfolding latest_between
    apart_latest q = ap (latest_between cs x y) (with_apart l n i last pair e q)

    pub found : pair.same ≡ false → between cs x y pair.a.0 pair.b.0 ≡ true → latest_of n ≡ n
    found q b = apart_latest q ∙ rw b (ap suc (decided_length l i) ∙ sym last)

    pub passed : pair.same ≡ false → between cs x y pair.a.0 pair.b.0 ≡ false → latest_of n ≡ latest_of i
    passed q b = apart_latest q ∙ rw b

    -- They are not where their classes have another exclusive or than x and y.
    pub passed_by_xor : pair.same ≡ false → (bit_xor (class_of cs pair.a.0) (class_of cs pair.b.0) ≡ bit_xor x y → ⊥) → latest_of n ≡ latest_of i
    passed_by_xor q other = passed q (neither_way x y (class_of cs pair.a.0) (class_of cs pair.b.0) other)
