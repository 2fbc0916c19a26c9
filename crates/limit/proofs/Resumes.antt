-- After a pair that the limit splits on is set apart, no condition is taken, the same classes are left, and the scan goes on after the pair.
use Prim.Native.Nat.{ℕ, zero, suc, ◌+◌, ◌-◌, ◌<◌}
use mathlib.Core.Bool.{Bool, true, false, cond, or-true}
use mathlib.Core.List.{List, [], ◌∷◌, ◌++◌}
use mathlib.Core.Path.{◌≡◌, refl, sym, ap, ap₂, ◌∙◌}
use native.Mathlib.Omega.{arith}
use borrow.Author.Tests.{eqb-true, eq-eqb, lt-leb}
use lib.Dec.{eqb}
use lib.ListN.{length, take}
use Rattle.sheet.specs.Conditions.{Term, apart}
use Rattle.buffers.specs.Lists.{All}
use Rattle.buffers.proofs.Lists.{all_map}
use Rattle.equality.specs.Node.{Decisions, class_of, classes, smallest_lot, between, marked, no_condition, takes, taken, Node, met, split, node_of, node}
use Rattle.equality.proofs.Node.{taken-apart}
use Rattle.limit.specs.Meaning.{Limit, up_to}
use Rattle.limit.specs.Rule.{smallest_from, classes_left, first_classes, marks_of, split_with, clique_or_split, none_taken, node_under}
use Rattle.limit.specs.Scan.{classes_from, pairs_at, ScanFrom, ResumesAfter}
use Rattle.limit.proofs.NodeKinds.{Kind, is_term, is_pair, kind_of_lem}
use Rattle.limit.proofs.Scan.{pairs_start}

-- ---- a node that takes no condition, and one that takes one

pub under_none : (limit : Limit) (n : ℕ) (tss : List (List Term)) (ds : Decisions) → taken ds 1 tss ≡ no_condition → node_under limit n tss ds ≡ none_taken limit n ds
unfolding node_under
under_none limit n tss ds e = rw e

pub under_takes : (limit : Limit) (n : ℕ) (tss : List (List Term)) (ds : Decisions) (c : ℕ) (ts : List Term) → taken ds 1 tss ≡ takes c ts
    → node_under limit n tss ds ≡ node ds tss
unfolding node_under node
under_takes limit n tss ds c ts e = rw e

none-split : (tss : List (List Term)) (ds : Decisions) → taken ds 1 tss ≡ no_condition → (x y : ℕ) → node ds tss ≡ split x y → ⊥
unfolding node
none-split tss ds none x y e =
    let here : met ≡ split x y = sym (ap (node_of met ds) none) ∙ e in
    let z : ◌≡◌ {A = ℕ} 0 1 = cc in omega arith

-- The scan may begin with the first pair.
pub scan_start : (g n : ℕ) (ds : Decisions) → ScanFrom g n 0 1 ds
scan_start g n ds end first =
    let all : end - 0 ≡ end = omega arith in
    ap (clique_or_split (marks_of ds)) (first ∙ ap (λ (c : ℕ). smallest_from (classes ds) c 0) (sym all))
    ∙ sym (pairs_start (classes ds) (marks_of ds) end 0)

-- With more classes than the limit a node that takes no condition is what the scan finds.
pub none_more : (g n : ℕ) (ds : Decisions) → g < length (classes_left n ds) → none_taken (up_to g) n ds ≡ clique_or_split (marks_of ds) (first_classes g n ds)
unfolding none_taken
none_more g n ds more = rw (lt-leb (length (classes_left n ds)) g more)

-- ---- the first pair not marked

module _ (marks : ℕ → ℕ → Bool) where
  -- The class x is marked apart from these.
  abbrev MarkedFrom : ℕ → List ℕ → Type 0
  MarkedFrom x ys = All (λ y. marks x y ≡ true) ys

  -- Each of the classes `front` is marked apart from all that follow it.
  abbrev Passed : List ℕ → List ℕ → Type 0
  Passed [] rest = Unit {0}
  Passed (x ∷ front) rest = MarkedFrom x (front ++ rest) × Passed front rest

-- The first pair not marked apart is x and y.
record FirstAt (marks : ℕ → ℕ → Bool) (xs : List ℕ) (x y : ℕ) : Type 0 where
  pub front : List ℕ
  pub mid : List ℕ
  pub after : List ℕ
  pub place : xs ≡ front ++ x ∷ (mid ++ y ∷ after)
  pub passed : Passed marks front (x ∷ (mid ++ y ∷ after))
  pub marked' : MarkedFrom marks x mid

module _ (marks : ℕ → ℕ → Bool) where
  -- What the scan passes by.
  with_past : (x : ℕ) (mid ys : List ℕ) (others : Node) → MarkedFrom marks x mid → split_with marks x (mid ++ ys) others ≡ split_with marks x ys others
  unfolding split_with
  with_past x [] ys others all = refl
  with_past x (y ∷ mid) ys others all = rw all.0 (with_past x mid ys others all.1)

  with_none : (x : ℕ) (ys : List ℕ) (others : Node) → MarkedFrom marks x ys → split_with marks x ys others ≡ others
  unfolding split_with
  with_none x [] others all = refl
  with_none x (y ∷ ys) others all = rw all.0 (with_none x ys others all.1)

  scan_past : (front rest : List ℕ) → Passed marks front rest → clique_or_split marks (front ++ rest) ≡ clique_or_split marks rest
  unfolding clique_or_split
  scan_past [] rest passed = refl
  scan_past (x ∷ front) rest passed =
      with_none x (front ++ rest) (clique_or_split marks (front ++ rest)) passed.0 ∙ scan_past front rest passed.1

  with_first : (C : Type 0) (x a b : ℕ) (ys : List ℕ) (others : Node) → split_with marks x ys others ≡ split a b
      → ((mid after : List ℕ) → x ≡ a → ys ≡ mid ++ b ∷ after → MarkedFrom marks x mid → C)
      → (MarkedFrom marks x ys → others ≡ split a b → C)
      → C
  unfolding split_with
  with_first C x a b [] others e here later = later tt e
  with_first C x a b (y ∷ ys) others e here later = go (marks x y) refl e (with_first C x a b ys others)
    where
      go : (p : Bool) → marks x y ≡ p → cond p (split_with marks x ys others) (split x y) ≡ split a b
          → (split_with marks x ys others ≡ split a b
          → ((mid after : List ℕ) → x ≡ a → ys ≡ mid ++ b ∷ after → MarkedFrom marks x mid → C)
          → (MarkedFrom marks x ys → others ≡ split a b → C) → C)
          → C
      go true q e rest =
          rest e
          (λ mid after first place all. here (y ∷ mid) after first (ap (λ (l : List ℕ). y ∷ l) place) (q, all))
          (λ all found. later (q, all) found)
      go false q e rest =
          let first : x ≡ a = cc in
          let second : y ≡ b = cc in
          here [] ys first (ap (λ (z : ℕ). z ∷ ys) second) tt

  first_at : (xs : List ℕ) (x y : ℕ) → clique_or_split marks xs ≡ split x y → FirstAt marks xs x y
  unfolding clique_or_split
  first_at [] x y e = let z : ◌≡◌ {A = ℕ} 0 1 = cc in absurd (omega arith)
  first_at (u ∷ xs) x y e = with_first (FirstAt marks (u ∷ xs) x y) u x y xs (clique_or_split marks xs) e here (λ all found. later all (first_at xs x y found))
    where
      here : (mid after : List ℕ) → u ≡ x → xs ≡ mid ++ y ∷ after → MarkedFrom marks u mid → FirstAt marks (u ∷ xs) x y
      here mid after first place all =
          record { front = []; mid = mid; after = after; place = rw (first, place) refl; passed = tt; marked' = rw first at all }

      later : MarkedFrom marks u xs → FirstAt marks xs x y → FirstAt marks (u ∷ xs) x y
      later all at =
          record {
            front = u ∷ at.front;
            mid = at.mid;
            after = at.after;
            place = ap (λ (l : List ℕ). u ∷ l) at.place;
            passed = (rw at.place at all, at.passed);
            marked' = at.marked';
          }

-- ---- the classes that follow one

module _ (cs : List ℕ) where
  -- A smallest lot, and the classes below lot `end` that stand after it.
  record FollowedBy (end x : ℕ) (rest : List ℕ) : Type 0 where
    pub own : class_of cs x ≡ x
    pub rest' : rest ≡ classes_from cs end (suc x)

  followed : (end count from x : ℕ) → end ≡ from + count → (front rest : List ℕ) → smallest_from cs count from ≡ front ++ x ∷ rest → FollowedBy end x rest
  unfolding smallest_from
  followed end zero from x ends [] rest e = let z : ◌≡◌ {A = ℕ} 0 1 = cc in absurd (omega arith)
  followed end zero from x ends (u ∷ front) rest e = let z : ◌≡◌ {A = ℕ} 0 1 = cc in absurd (omega arith)
  followed end (suc count) from x ends front rest e =
      go (eqb (class_of cs from) from) refl front e (λ front'. followed end count (suc from) x (omega arith) front' rest)
    where
      go : (p : Bool) → eqb (class_of cs from) from ≡ p → (front : List ℕ)
          → cond p (from ∷ smallest_from cs count (suc from)) (smallest_from cs count (suc from)) ≡ front ++ x ∷ rest
          → ((front : List ℕ) → smallest_from cs count (suc from) ≡ front ++ x ∷ rest → FollowedBy end x rest)
          → FollowedBy end x rest
      go true q [] e further =
          let first : from ≡ x = cc in
          let after : smallest_from cs count (suc from) ≡ rest = cc in
          let left : count ≡ end - suc x = omega arith in
          record {
            own = rw (← first) (eqb-true (class_of cs from) from q);
            rest' = sym after ∙ ap₂ (smallest_from cs) left (ap suc first);
          }
      go true q (u ∷ front) e further = further front cc
      go false q front e further = further front e

-- ---- the pair is set apart

module _ (ds : Decisions) (x y : ℕ) where
  stays_marked : (u v : ℕ) → marks_of ds u v ≡ true → marks_of (apart x y ∷ ds) u v ≡ true
  unfolding classes marked
  stays_marked u v e = rw e (or-true (between (classes ds) u v x y))

  passed_stays : (front rest : List ℕ) → Passed (marks_of ds) front rest → Passed (marks_of (apart x y ∷ ds)) front rest
  passed_stays [] rest passed = tt
  passed_stays (u ∷ front) rest passed = (all_map (stays_marked u) (front ++ rest) passed.0, passed_stays front rest passed.1)

  now_marked : smallest_lot ds x ≡ x → smallest_lot ds y ≡ y → marks_of (apart x y ∷ ds) x y ≡ true
  unfolding classes marked
  now_marked ex ey = simp (eq-eqb (smallest_lot ds x) x ex, eq-eqb (smallest_lot ds y) y ey)

  -- The scan goes on after the pair: over the same classes it comes to what it comes to from there.
  resumes : (end : ℕ) → clique_or_split (marks_of ds) (smallest_from (classes ds) end 0) ≡ split x y
      → clique_or_split (marks_of (apart x y ∷ ds)) (smallest_from (classes ds) end 0) ≡ pairs_at (marks_of (apart x y ∷ ds)) (classes ds) end x (suc y)
  unfolding clique_or_split split_with
  resumes end e = go (first_at (marks_of ds) (smallest_from (classes ds) end 0) x y e)
    where
      go : FirstAt (marks_of ds) (smallest_from (classes ds) end 0) x y
          → clique_or_split (marks_of (apart x y ∷ ds)) (smallest_from (classes ds) end 0) ≡ pairs_at (marks_of (apart x y ∷ ds)) (classes ds) end x (suc y)
      go at =
          let rest = at.mid ++ y ∷ at.after in
          let marks = marks_of (apart x y ∷ ds) in
          let first = followed (classes ds) end end 0 x (omega arith) at.front rest at.place in
          let second = followed (classes ds) end end 0 y (omega arith) (at.front ++ x ∷ at.mid) at.after (at.place ∙ regroup at.front at.mid at.after) in
          let others = clique_or_split marks rest in
          ap (clique_or_split marks) at.place
          ∙ scan_past marks at.front (x ∷ rest) (passed_stays at.front (x ∷ rest) at.passed)
          ∙ with_past marks x at.mid (y ∷ at.after) others (all_map (stays_marked x) at.mid at.marked')
          ∙ ap (λ (p : Bool). cond p (split_with marks x at.after others) (split x y)) (now_marked first.own second.own)
          ∙ ap₂ (λ (ys zs : List ℕ). split_with marks x ys (clique_or_split marks zs)) second.rest' first.rest'
          ∙ ap (λ (p : Bool). cond p (split_with marks x (classes_from (classes ds) end (suc y)) (clique_or_split marks (classes_from (classes ds) end (suc x))))
          (clique_or_split marks (classes_from (classes ds) end (suc x)))) (sym (eq-eqb (smallest_lot ds x) x first.own))
        where
          regroup : (front mid after : List ℕ) → front ++ x ∷ (mid ++ y ∷ after) ≡ (front ++ x ∷ mid) ++ y ∷ after
          regroup [] mid after = refl
          regroup (u ∷ front) mid after = ap (λ (l : List ℕ). u ∷ l) (regroup front mid after)

  -- No class changes, and no condition is taken.
  same_left : (n : ℕ) → classes_left n (apart x y ∷ ds) ≡ classes_left n ds
  unfolding classes classes_left
  same_left n = refl

  resumes-pairs : (g n : ℕ) → clique_or_split (marks_of ds) (first_classes g n ds) ≡ split x y → ScanFrom g n x (suc y) (apart x y ∷ ds)
  unfolding classes
  resumes-pairs g n e end first =
      let here : first_classes g n ds ≡ smallest_from (classes ds) end 0 = ap (take (suc g)) (sym (same_left n)) ∙ first in
      ap (clique_or_split (marks_of (apart x y ∷ ds))) first
      ∙ resumes end (sym (ap (clique_or_split (marks_of ds)) here) ∙ e)

  -- A node that takes no condition and is a split is one on a pair of classes, after which its apart branch goes on.
  pub pair_resumes : (g n : ℕ) (tss : List (List Term)) → taken ds 1 tss ≡ no_condition → none_taken (up_to g) n ds ≡ split x y
      → ResumesAfter g n tss x y (apart x y ∷ ds)
  pair_resumes g n tss none e =
      let at = pair_at (kind_of_lem g n tss ds (split x y) (under_none (up_to g) n tss ds none ∙ e)) in
      record {
        none = taken-apart ds x y 1 tss ∙ none;
        rises = at.0;
        pairs = resumes-pairs g n (sym (none_more g n ds at.1) ∙ e);
      }
    where
      pair_at : Kind g n tss ds (split x y) → (x < y) × (g < length (classes_left n ds))
      pair_at (is_term q) = absurd (none-split tss ds none x y q)
      pair_at (is_pair none' more hx hy less m) = (less, more)
