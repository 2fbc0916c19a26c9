-- Laws of the scan over classes and their pairs, for the code that makes it lot by lot.
use Prim.Native.Nat.{ℕ, zero, suc, ◌+◌, ◌-◌, ◌≤◌, ◌<◌}
use mathlib.Core.Bool.{Bool, true, false, cond, ◌&&◌}
use mathlib.Core.List.{List, [], ◌∷◌, ◌++◌}
use mathlib.Core.Path.{◌≡◌, refl, sym, ap, ap₂, ◌∙◌}
use native.Mathlib.Omega.{arith}
use borrow.Author.Tests.{leb-true, leb-false}
use lib.Dec.{eqb, leb}
use lib.ListN.{length, take, length-append, length-take}
use lib.Seq.{take_all, take-append_seam}
use Rattle.buffers.specs.Lists.{All}
use Rattle.equality.specs.Node.{Decisions, class_of, classes, Node, split, clique}
use Rattle.limit.specs.Rule.{smallest_from, classes_left, first_classes, split_with, clique_or_split, marked_with, all_marked}
use Rattle.limit.specs.Scan.{classes_from, classes_up_to, is_clique, pairs_at}
use Rattle.limit.proofs.Among.{Pairwise, pairwise_map, pairwise_with}
use Rattle.limit.proofs.Left.{from_all, from_rising}

module _ (cs : List ℕ) where
  -- ---- the classes, lot by lot

  from_append : (j k from : ℕ) → smallest_from cs (j + k) from ≡ smallest_from cs j from ++ smallest_from cs k (from + j)
  unfolding smallest_from
  from_append zero k from =
      let none : 0 + k ≡ k = omega arith in
      let here : from + 0 ≡ from = omega arith in
      ap₂ (smallest_from cs) none (sym here)
  from_append (suc j) k from =
      let more : suc j + k ≡ suc (j + k) = omega arith in
      let there : suc from + j ≡ from + suc j = omega arith in
      ap (λ (c : ℕ). smallest_from cs c from) more
      ∙ go (eqb (class_of cs from) from) (from_append j k (suc from) ∙ ap (λ (f : ℕ). smallest_from cs j (suc from) ++ smallest_from cs k f) there)
    where
      go : (p : Bool) → smallest_from cs (j + k) (suc from) ≡ smallest_from cs j (suc from) ++ smallest_from cs k (from + suc j)
          → cond p (from ∷ smallest_from cs (j + k) (suc from)) (smallest_from cs (j + k) (suc from))
          ≡ cond p (from ∷ smallest_from cs j (suc from)) (smallest_from cs j (suc from)) ++ smallest_from cs k (from + suc j)
      go true e = ap (λ (l : List ℕ). from ∷ l) e
      go false e = e

  -- One lot more: one class more exactly where the lot is the smallest of its class.
  pub one_more : (i : ℕ) → length (smallest_from cs (i + 1) 0) ≡ length (smallest_from cs i 0) + cond (eqb (class_of cs i) i) 1 0
  one_more i =
      let there : 0 + i ≡ i = omega arith in
      ap length (from_append i 1 0 ∙ ap (λ (f : ℕ). smallest_from cs i 0 ++ smallest_from cs 1 f) there)
      ∙ length-append (smallest_from cs i 0) (smallest_from cs 1 i)
      ∙ ap (λ (l : ℕ). length (smallest_from cs i 0) + l) (one (eqb (class_of cs i) i) refl)
    where
      one : (p : Bool) → eqb (class_of cs i) i ≡ p → length (smallest_from cs 1 i) ≡ cond p 1 0
      one true e = unfold smallest_from in rw e
      one false e = unfold smallest_from in rw e

  -- The first g + 1 classes are found where so many are,
  pub first_found : (g n end : ℕ) → end ≤ suc n → length (smallest_from cs end 0) ≡ suc g → take (suc g) (classes_up_to cs n) ≡ smallest_from cs end 0
  first_found g n end h count =
      let rest : suc n ≡ end + (suc n - end) = omega arith in
      ap (λ (c : ℕ). take (suc g) (smallest_from cs c 0)) rest
      ∙ ap (take (suc g)) (from_append end (suc n - end) 0)
      ∙ ap (λ (k : ℕ). take k (smallest_from cs end 0 ++ smallest_from cs (suc n - end) (0 + end))) (sym count)
      ∙ take-append_seam (smallest_from cs end 0) (smallest_from cs (suc n - end) (0 + end))

  -- or are all that there are.
  pub first_all : (g n : ℕ) → length (classes_up_to cs n) ≤ suc g → take (suc g) (classes_up_to cs n) ≡ classes_up_to cs n
  first_all g n few = take_all (suc g) (classes_up_to cs n) few

  -- ---- those from a lot on, and their pairs, lot by lot

  pub from_step : (end x : ℕ) → x < end → classes_from cs end x ≡ cond (eqb (class_of cs x) x) (x ∷ classes_from cs end (suc x)) (classes_from cs end (suc x))
  unfolding smallest_from
  from_step end x h = let more : end - x ≡ suc (end - suc x) = omega arith in ap (λ (c : ℕ). smallest_from cs c x) more

  pub from_none : (end x : ℕ) → end ≤ x → classes_from cs end x ≡ []
  unfolding smallest_from
  from_none end x h = let none : end - x ≡ 0 = omega arith in ap (λ (c : ℕ). smallest_from cs c x) none

  module _ (marks : ℕ → ℕ → Bool) where
    -- A class y is looked at with x,
    pub with_class : (end x y : ℕ) (others : Node) → y < end → eqb (class_of cs y) y ≡ true
        → split_with marks x (classes_from cs end y) others ≡ cond (marks x y) (split_with marks x (classes_from cs end (suc y)) others) (split x y)
    unfolding split_with
    with_class end x y others h own =
        ap (λ (l : List ℕ). split_with marks x l others) (from_step end y h ∙ ap (λ (p : Bool). cond p (y ∷ classes_from cs end (suc y)) (classes_from cs end (suc y))) own)

    -- a lot that is the smallest of no class is not,
    pub with_other : (end x y : ℕ) (others : Node) → y < end → eqb (class_of cs y) y ≡ false
        → split_with marks x (classes_from cs end y) others ≡ split_with marks x (classes_from cs end (suc y)) others
    with_other end x y others h none =
        ap (λ (l : List ℕ). split_with marks x l others) (from_step end y h ∙ ap (λ (p : Bool). cond p (y ∷ classes_from cs end (suc y)) (classes_from cs end (suc y))) none)

    -- and behind the last lot there is none.
    pub with_end : (end x y : ℕ) (others : Node) → end ≤ y → split_with marks x (classes_from cs end y) others ≡ others
    unfolding split_with
    with_end end x y others h = ap (λ (l : List ℕ). split_with marks x l others) (from_none end y h)

    -- A class x is looked at with those from y on; any other lot is passed.
    pub pairs_class : (end x y : ℕ) → eqb (class_of cs x) x ≡ true
        → pairs_at marks cs end x y ≡ split_with marks x (classes_from cs end y) (clique_or_split marks (classes_from cs end (suc x)))
    pairs_class end x y own = rw own

    pub pairs_other : (end x y : ℕ) → eqb (class_of cs x) x ≡ false → pairs_at marks cs end x y ≡ clique_or_split marks (classes_from cs end (suc x))
    pairs_other end x y none = rw none

    -- Behind the last lot there is no pair.
    pub pairs_end : (end x y : ℕ) → end ≤ x → x ≤ y → pairs_at marks cs end x y ≡ clique
    pairs_end end x y h k = go (eqb (class_of cs x) x)
      where
        none : clique_or_split marks (classes_from cs end (suc x)) ≡ clique
        none = ap (clique_or_split marks) (from_none end (suc x) (omega arith)) ∙ unfold clique_or_split in refl

        go : (p : Bool) → cond p (split_with marks x (classes_from cs end y) (clique_or_split marks (classes_from cs end (suc x)))) (clique_or_split marks (classes_from cs end (suc x))) ≡ clique
        go true = with_end end x y (clique_or_split marks (classes_from cs end (suc x))) (omega arith) ∙ none
        go false = none

    -- The pairs from lot x on.
    pub pairs_start : (end x : ℕ) → pairs_at marks cs end x (suc x) ≡ clique_or_split marks (classes_from cs end x)
    pairs_start end x = go (leb end x) refl
      where
        row : (p : Bool) → cond p (split_with marks x (classes_from cs end (suc x)) (clique_or_split marks (classes_from cs end (suc x)))) (clique_or_split marks (classes_from cs end (suc x)))
            ≡ clique_or_split marks (cond p (x ∷ classes_from cs end (suc x)) (classes_from cs end (suc x)))
        row true = unfold clique_or_split in refl
        row false = refl

        go : (q : Bool) → leb end x ≡ q → pairs_at marks cs end x (suc x) ≡ clique_or_split marks (classes_from cs end x)
        go true e = pairs_end end x (suc x) (leb-true end x e) (omega arith) ∙ sym (ap (clique_or_split marks) (from_none end x (leb-true end x e)) ∙ unfold clique_or_split in refl)
        go false e = row (eqb (class_of cs x) x) ∙ ap (clique_or_split marks) (sym (from_step end x (leb-false end x e)))

-- ---- how many are found

-- As many classes are left as were found, or more than the limit.
module _ (g n end : ℕ) (ds : Decisions) (first : first_classes g n ds ≡ smallest_from (classes ds) end 0) where
  found_left : length (smallest_from (classes ds) end 0) ≡ length (take (suc g) (classes_left n ds))
  found_left = ap length (sym first)

  pub few-left : length (smallest_from (classes ds) end 0) ≤ g → length (classes_left n ds) ≤ g
  few-left few = omega (arith, found_left, length-take (suc g) (classes_left n ds))

  pub more_left : g < length (smallest_from (classes ds) end 0) → g < length (classes_left n ds)
  more_left more = omega (arith, found_left, length-take (suc g) (classes_left n ds))

-- ---- two tests of marks that agree

module _ (marks marks' : ℕ → ℕ → Bool) where
  with_agrees : (x : ℕ) (ys : List ℕ) (others others' : Node) → All (λ y. marks x y ≡ marks' x y) ys → others ≡ others'
      → split_with marks x ys others ≡ split_with marks' x ys others'
  unfolding split_with
  with_agrees x [] others others' all e = e
  with_agrees x (y ∷ ys) others others' all e =
      ap₂ (λ (p : Bool) (later : Node). cond p later (split x y)) all.0 (with_agrees x ys others others' all.1 e)

  scan_agrees : (xs : List ℕ) → Pairwise (λ x y. marks x y ≡ marks' x y) xs → clique_or_split marks xs ≡ clique_or_split marks' xs
  unfolding clique_or_split
  scan_agrees [] pairs = refl
  scan_agrees (x ∷ xs) pairs = with_agrees x xs (clique_or_split marks xs) (clique_or_split marks' xs) pairs.0 (scan_agrees xs pairs.1)

  -- Where they agree on every two lots below the last, the lower first, the scan comes to the same.
  pub pairs_agree : (cs : List ℕ) (end x y : ℕ) → x < y → ((u v : ℕ) → u < v → v < end → marks u v ≡ marks' u v)
      → pairs_at marks cs end x y ≡ pairs_at marks' cs end x y
  pairs_agree cs end x y h agrees =
      let rest = scan_agrees (classes_from cs end (suc x)) (rising (suc x)) in
      ap₂ (λ (first others : Node). cond (eqb (class_of cs x) x) first others)
      (with_agrees x (classes_from cs end y) _ _
      (from_all cs (λ v. marks x v ≡ marks' x v) (end - y) y (λ v low high own. agrees x v (omega arith) (omega arith)))
      rest)
      rest
    where
      rising : (from : ℕ) → Pairwise (λ u v. marks u v ≡ marks' u v) (classes_from cs end from)
      rising from =
          let lots = from_all cs (λ v. v < end) (end - from) from (λ v low high own. omega arith) in
          pairwise_map (λ u v r. agrees u v r.2 r.1) (classes_from cs end from)
          (pairwise_with (λ u v. u < v) (λ v. v < end) (classes_from cs end from) (from_rising cs (end - from) from) lots)

-- ---- a clique is what is all marked

module _ (marks : ℕ → ℕ → Bool) where
  with_marked : (x : ℕ) (ys : List ℕ) (others : Node) → is_clique (split_with marks x ys others) ≡ (marked_with marks x ys && is_clique others)
  unfolding split_with marked_with
  with_marked x [] others = refl
  with_marked x (y ∷ ys) others = go (marks x y) (with_marked x ys others)
    where
      go : (p : Bool) → is_clique (split_with marks x ys others) ≡ (marked_with marks x ys && is_clique others)
          → is_clique (cond p (split_with marks x ys others) (split x y)) ≡ ((p && marked_with marks x ys) && is_clique others)
      go true e = e
      go false e = refl

  pub all_marked_lem : (xs : List ℕ) → is_clique (clique_or_split marks xs) ≡ all_marked marks xs
  unfolding clique_or_split all_marked
  all_marked_lem [] = refl
  all_marked_lem (x ∷ xs) = with_marked x xs (clique_or_split marks xs) ∙ ap (λ (p : Bool). marked_with marks x xs && p) (all_marked_lem xs)
