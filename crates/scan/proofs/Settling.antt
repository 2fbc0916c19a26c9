-- Conditions that are settled stay so: the scan may leave them out. A join leaves lots that share a class in one, and a pair set apart changes no class.
-- Its level says that a condition is settled, and at which level of the path it was seen to be.
use Prim.Native.Nat.{ℕ, zero, suc, ◌+◌, ◌-◌, ◌≤◌, ◌<◌, min}
use mathlib.Core.Bool.{Bool, true, false, cond, ◌||◌, or-true, false≢true, beq}
use mathlib.Core.List.{List, [], ◌∷◌, ◌++◌}
use mathlib.Core.Logic.{◌≢◌, ◌⊎◌, inl, inr}
use mathlib.Core.Path.{◌≡◌, refl, sym, ap, ◌∙◌}
use native.Mathlib.Omega.{arith}
use borrow.Author.Tests.{eqb-true, eqb-false, eq-eqb, lt-ltb, le-ltb}
use lib.Dec.{eqb, ltb}
use lib.ListN.{length, get_or, set, length-set, length-append}
use lib.Seq.{get_or-set_same, get_or-set_other}
use Rattle.sheet.specs.Format.{same_sign, condition_count, next_at}
use Rattle.sheet.specs.Checks.{Accepted}
use Rattle.sheet.specs.Conditions.{Term, same, apart, term_of, term_at, terms_from, condition_at, conditions}
use Rattle.sheet.proofs.Conditions.{conditions-length}
use Rattle.sheet.proofs.ChainEnds.{terms_step}
use Rattle.equality.specs.Meaning.{holds, any_term, meets_condition}
use Rattle.equality.specs.Node.{Decisions, merged, class_of, classes, takes, taken, met, split, node_of, node}
use Rattle.buffers.proofs.Lists.{all_map}
use Rattle.equality.proofs.Some.{any_false, any_none, any_here, some_found}
use Rattle.equality.proofs.Node.{taken-values, passed_by_classes}
use Rattle.equality.proofs.Rule.{taken_at, OpenAt, open_at}
use Rattle.equality.proofs.Classes.{joined_to}
use Rattle.equality.proofs.Passing.{Passing}
use Rattle.scan.specs.Settled.{sharing, settled_by, Settled, Later, ClearedAbove}
use Rattle.scan.specs.declared.Place.{Place}
use Rattle.scan.specs.declared.Place.TheVariants.{Scan, Within, Nowhere, After}
use Rattle.scan.specs.Place.{HasLevel, LevelOrNone}

-- Where one test is passed another is: so by some of these terms.
module _ (p q : Term → Bool) (also : (t : Term) → p t ≡ true → q t ≡ true) where
  not_either : (t : Term) → q t ≡ false → p t ≡ false
  not_either t f = go (p t) refl
    where
      go : (b : Bool) → p t ≡ b → p t ≡ false
      go true e = absurd (false≢true (sym f ∙ also t e))
      go false e = e

  any_also : (ts : List Term) → any_term p ts ≡ true → any_term q ts ≡ true
  any_also ts h = go (any_term q ts) refl
    where
      go : (b : Bool) → any_term q ts ≡ b → any_term q ts ≡ true
      go true e = e
      go false e = absurd (false≢true (sym (any_false p ts (all_map not_either ts (any_none q ts e))) ∙ h))

-- The classes meet a settled condition.
pub settled-met : (cs : List ℕ) (ts : List Term) → settled_by cs ts ≡ true → meets_condition (class_of cs) ts ≡ true
settled-met cs ts e = some_found (holds (class_of cs)) ts (any_also (sharing cs) (holds (class_of cs)) true_too ts e)
  where
    true_too : (t : Term) → sharing cs t ≡ true → holds (class_of cs) t ≡ true
    true_too (same a b) e = e
    true_too (apart a b) e = absurd (false≢true e)

-- ---- in the scan

module _ (cs s : List ℕ) where
  -- The condition of a chain is settled by a term that the loop over it finds.
  pub found_sharing : (q : Term → Bool) (ok : Accepted s) (head at : ℕ) → Passing q s head at → 1 ≤ at → sharing cs (term_at s at) ≡ true
      → settled_by cs (terms_from s head) ≡ true
  found_sharing q ok head at l h e =
      ap (settled_by cs) (l.place ∙ ap (λ (ts : List Term). l.passed ++ ts) (terms_step s ok at h l.on.within))
      ∙ any_here (sharing cs) l.passed (term_at s at) (terms_from s (next_at s at)) e

-- A true term whose lots share a class is a "same" term.
pub sharing_flag : (cs : List ℕ) (sign a b : ℕ) → eqb (class_of cs a) (class_of cs b) ≡ true → beq (eqb (class_of cs a) (class_of cs b)) (eqb sign same_sign) ≡ true
    → sharing cs (term_of sign a b) ≡ true
sharing_flag cs sign a b shared flag = go (eqb sign same_sign) (rw shared at flag)
  where
    go : (p : Bool) → beq true p ≡ true → sharing cs (cond p (same a b) (apart a b)) ≡ true
    go true e = shared
    go false e = absurd (false≢true e)

-- ---- one decision more

-- A lot's class once two are joined, for every number: past the entries both are 0, which stays what it is.
zero_stays : (x y : ℕ) → joined_to x y 0 ≡ 0
zero_stays x y = go (eqb 0 x) (eqb 0 y) refl refl
  where
    go : (p q : Bool) → eqb 0 x ≡ p → eqb 0 y ≡ q → cond (p || q) (min x y) 0 ≡ 0
    go true q ex ey = omega (arith, eqb-true 0 x ex)
    go false true ex ey = omega (arith, eqb-true 0 y ey)
    go false false ex ey = refl

joined_class : (x y : ℕ) (cs : List ℕ) (lot : ℕ) → class_of (merged x y cs) lot ≡ joined_to x y (class_of cs lot)
unfolding merged
joined_class x y [] lot = sym (zero_stays x y)
joined_class x y (z ∷ cs) zero = refl
joined_class x y (z ∷ cs) (suc lot) = joined_class x y cs lot

-- A settled condition stays so in a join,
settled_joined : (x y : ℕ) (cs : List ℕ) (ts : List Term) → settled_by cs ts ≡ true → settled_by (merged x y cs) ts ≡ true
settled_joined x y cs ts = any_also (sharing cs) (sharing (merged x y cs)) stays ts
  where
    stays : (t : Term) → sharing cs t ≡ true → sharing (merged x y cs) t ≡ true
    stays (same a b) e =
        eq-eqb _ _ (joined_class x y cs a ∙ ap (joined_to x y) (eqb-true (class_of cs a) (class_of cs b) e) ∙ sym (joined_class x y cs b))
    stays (apart a b) e = absurd (false≢true e)

-- which settles every condition that has the term of its pair.
first-joins : (x y : ℕ) → joined_to x y x ≡ min x y
first-joins x y = simp (eq-eqb x x refl)

second-joins : (x y : ℕ) → joined_to x y y ≡ min x y
second-joins x y = simp (eq-eqb y y refl, or-true)

pair_shares : (cs : List ℕ) (a b : ℕ) → sharing (merged (class_of cs a) (class_of cs b) cs) (same a b) ≡ true
pair_shares cs a b =
    let x = class_of cs a in
    let y = class_of cs b in
    eq-eqb _ _ (joined_class x y cs a ∙ first-joins x y ∙ sym (joined_class x y cs b ∙ second-joins x y))

-- In the same branch of a split the condition taken is settled.
split_settles : (ds : Decisions) (s : List ℕ) (c a b : ℕ) → node ds (conditions s) ≡ split a b → taken ds 1 (conditions s) ≡ takes c (condition_at s c)
    → settled_by (merged (class_of (classes ds) a) (class_of (classes ds) b) (classes ds)) (condition_at s c) ≡ true
unfolding node
split_settles ds s c a b e t =
    ap (settled_by (merged (class_of (classes ds) a) (class_of (classes ds) b) (classes ds))) first.place
    ∙ any_here (sharing (merged (class_of (classes ds) a) (class_of (classes ds) b) (classes ds))) first.before (same a b) first.after (pair_shares (classes ds) a b)
  where
    first : OpenAt ds (condition_at s c) a b
    first =
        open_at ds c (condition_at s c) a b (taken-values ds (condition_at s c) (taken_at ds 1 (conditions s) c (condition_at s c) t).unmet)
        (sym (ap (node_of met ds) t) ∙ e)

-- The condition taken is one of the sheet's.
pub taken-number : (ds : Decisions) (s : List ℕ) (c : ℕ) (ts : List Term) → taken ds 1 (conditions s) ≡ takes c ts → (1 ≤ c) × (c ≤ condition_count s)
taken-number ds s c ts e =
    let at = taken_at ds 1 (conditions s) c ts e in
    let long : length (conditions s) ≡ length at.front + length (ts ∷ at.back) = ap length at.place ∙ length-append at.front (ts ∷ at.back) in
    (omega (arith, at.number), omega (arith, at.number, long, conditions-length s))

-- What `settle` asks of a place holds of one that has a level.
pub level-or-none : (p : Place) (levels : List ℕ) → HasLevel p levels → LevelOrNone p levels
level-or-none Scan levels has = tt
level-or-none (Within c r) levels has = has.1
level-or-none Nowhere levels has = tt
level-or-none (After x y) levels has = tt

-- ---- later levels

pub later_none : (levels : List ℕ) (level : ℕ) → Later levels levels level
later_none levels level = record { sized = refl; each = λ i. inl refl }

pub later_through : (levels levels' levels'' : List ℕ) (level : ℕ) → Later levels levels' level → Later levels' levels'' level → Later levels levels'' level
later_through levels levels' levels'' level one two = record { sized = two.sized ∙ one.sized; each = λ i. go i (one.each i) (two.each i) }
  where
    go : (i : ℕ) → (get_or levels' i 0 ≡ get_or levels i 0) ⊎ ((get_or levels i 0 ≡ 0) × (level ≤ get_or levels' i 0))
        → (get_or levels'' i 0 ≡ get_or levels' i 0) ⊎ ((get_or levels' i 0 ≡ 0) × (level ≤ get_or levels'' i 0))
        → (get_or levels'' i 0 ≡ get_or levels i 0) ⊎ ((get_or levels i 0 ≡ 0) × (level ≤ get_or levels'' i 0))
    go i (inl e) (inl f) = inl (f ∙ e)
    go i (inl e) (inr f) = inr (sym e ∙ f.0, f.1)
    go i (inr e) (inl f) = inr (e.0, omega (arith, e.1, f))
    go i (inr e) (inr f) = inr (e.0, f.1)

-- What is of a later level is later than this one.
pub later_above : (levels levels' : List ℕ) (level : ℕ) → Later levels levels' (level + 1) → Later levels levels' level
later_above levels levels' level l = record { sized = l.sized; each = λ i. go i (l.each i) }
  where
    go : (i : ℕ) → (get_or levels' i 0 ≡ get_or levels i 0) ⊎ ((get_or levels i 0 ≡ 0) × (level + 1 ≤ get_or levels' i 0))
        → (get_or levels' i 0 ≡ get_or levels i 0) ⊎ ((get_or levels i 0 ≡ 0) × (level ≤ get_or levels' i 0))
    go i (inl e) = inl e
    go i (inr e) = inr (e.0, omega (arith, e.1))

-- ---- one level more

module _ (levels : List ℕ) (i level : ℕ) (h : i < length levels) where
  by_place : (P : ℕ → ℕ → Type 0) → P i level → ((j : ℕ) → j ≢ i → P j (get_or levels j 0)) → (j : ℕ) → P j (get_or (set levels i level) j 0)
  by_place P here others j = go (eqb j i) refl
    where
      go : (b : Bool) → eqb j i ≡ b → P j (get_or (set levels i level) j 0)
      go true e =
          let same_place : j ≡ i = eqb-true j i e in
          rw same_place (rw (get_or-set_same levels i level 0 h) here)
      go false e = rw (get_or-set_other levels i j level 0 (eqb-false j i e)) (others j (eqb-false j i e))

  -- where there was none it is a later one,
  pub later_settle : get_or levels i 0 ≡ 0 → Later levels (set levels i level) level
  later_settle none =
      record {
        sized = length-set levels i level;
        each =
            by_place (λ j v. (v ≡ get_or levels j 0) ⊎ ((get_or levels j 0 ≡ 0) × (level ≤ v)))
            (inr (none, omega arith)) (λ j other. inl refl);
      }

  -- and it may be written where the condition is settled.
  pub settled_here : (cs s : List ℕ) → Settled cs s levels level → settled_by cs (condition_at s (suc i)) ≡ true → Settled cs s (set levels i level) level
  settled_here cs s l e =
      record {
        low = l.low;
        sized = omega (arith, length-set levels i level, l.sized);
        high = by_place (λ j v. v ≤ level) (omega arith) (λ j other. l.high j);
        each = by_place (λ j v. v ≢ 0 → settled_by cs (condition_at s (suc j)) ≡ true) (λ n. e) (λ j other. l.each j);
      }

-- So by a loop that writes it.
pub settled-next : (cs s levels₀ levels levels' : List ℕ) (level i : ℕ) → levels' ≡ levels → i < length levels → get_or levels i 0 ≡ 0 → settled_by cs (condition_at s (suc i)) ≡ true
    → Settled cs s levels level → Later levels₀ levels level → Settled cs s (set levels' i level) level × Later levels₀ (set levels' i level) level
settled-next cs s levels₀ levels levels' level i e h none settled l later =
    rw e (settled_here levels i level h cs s l settled, later_through levels₀ levels (set levels i level) level later (later_settle levels i level h none))

-- ---- the two branches of a split

-- No condition that is taken has a level: it is not met.
taken_unsettled : (ds : Decisions) (s levels : List ℕ) (level i : ℕ) → Settled (classes ds) s levels level → taken ds 1 (conditions s) ≡ takes (suc i) (condition_at s (suc i))
    → get_or levels i 0 ≡ 0
taken_unsettled ds s levels level i l t = go (eqb (get_or levels i 0) 0) refl
  where
    go : (b : Bool) → eqb (get_or levels i 0) 0 ≡ b → get_or levels i 0 ≡ 0
    go true e = eqb-true _ _ e
    go false e =
        absurd
        (false≢true
        (sym (taken_at ds 1 (conditions s) (suc i) (condition_at s (suc i)) t).unmet
        ∙ passed_by_classes ds (condition_at s (suc i))
        ∙ settled-met (classes ds) (condition_at s (suc i)) (l.each i (eqb-false _ _ e))))

-- In the same branch, of the next level, what was settled is,
pub joined_settled : (cs s levels : List ℕ) (a b level : ℕ) → Settled cs s levels level → Settled (merged (class_of cs a) (class_of cs b) cs) s levels (level + 1)
joined_settled cs s levels a b level l =
    record {
      low = omega arith;
      sized = l.sized;
      high = λ i. omega (arith, l.high i);
      each = λ i n. settled_joined _ _ cs (condition_at s (suc i)) (l.each i n);
    }

-- and so is the condition taken.
module _ (ds : Decisions) (s levels : List ℕ) (c a b level : ℕ) (l : Settled (classes ds) s levels level)
    (e : node ds (conditions s) ≡ split a b) (t : taken ds 1 (conditions s) ≡ takes c (condition_at s c)) where
  number : suc (c - 1) ≡ c
  number = omega (arith, taken-number ds s c (condition_at s c) t)

  place : c - 1 < length levels
  place = omega (arith, taken-number ds s c (condition_at s c) t, l.sized)

  pub same-settled : Settled (merged (class_of (classes ds) a) (class_of (classes ds) b) (classes ds)) s (set levels (c - 1) (level + 1)) (level + 1)
  same-settled =
      settled_here levels (c - 1) (level + 1) place (merged (class_of (classes ds) a) (class_of (classes ds) b) (classes ds)) s (joined_settled (classes ds) s levels a b level l)
      (rw number (split_settles ds s c a b e t))

  pub same_later : Later levels (set levels (c - 1) (level + 1)) (level + 1)
  same_later = later_settle levels (c - 1) (level + 1) place (taken_unsettled ds s levels level (c - 1) l (rw number t))

-- Before the apart branch the levels above this one are forgotten: each is what it was.
module _ (cs s levels levels' levels'' : List ℕ) (level : ℕ) (l : Settled cs s levels level) (over : Later levels levels' (level + 1)) (cleared : ClearedAbove levels' levels'' level) where
  restored : (i : ℕ) → get_or levels'' i 0 ≡ get_or levels i 0
  restored i = cleared.each i ∙ go (over.each i)
    where
      go : (get_or levels' i 0 ≡ get_or levels i 0) ⊎ ((get_or levels i 0 ≡ 0) × (level + 1 ≤ get_or levels' i 0))
          → cond (ltb level (get_or levels' i 0)) 0 (get_or levels' i 0) ≡ get_or levels i 0
      go (inl e) = rw e (rw (le-ltb level (get_or levels i 0) (l.high i)) refl)
      go (inr e) = rw (lt-ltb level (get_or levels' i 0) (omega (arith, e.1))) (sym e.0)

  pub restored_settled : Settled cs s levels'' level
  restored_settled =
      record {
        low = l.low;
        sized = omega (arith, cleared.sized, over.sized, l.sized);
        high = λ i. omega (arith, restored i, l.high i);
        each = λ i n. l.each i (λ none. n (restored i ∙ none));
      }

  pub restored_later : Later levels levels'' level
  restored_later = record { sized = cleared.sized ∙ over.sized; each = λ i. inl (restored i) }
