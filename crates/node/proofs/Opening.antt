-- The loop over the terms of the taken condition: those that it has passed are not open, and neither they nor the open term where it leaves are open once
-- that term's lots are set apart.
use Prim.Native.Nat.{ℕ, ◌≤◌}
use mathlib.Core.Bool.{Bool, true, false, cond, not, false≢true}
use mathlib.Core.List.{List, [], ◌∷◌, ◌++◌, append-nil, append_assoc}
use mathlib.Core.Logic.{◌≢◌}
use mathlib.Core.Path.{◌≡◌, refl, sym, ap, ◌∙◌}
use borrow.Author.Tests.{not-false, ne_eqb, eqb-false}
use native.Mathlib.Omega.{arith}
use Rattle.sheet.specs.Format.{same_sign, next_at}
use Rattle.sheet.specs.Checks.{Accepted}
use Rattle.sheet.specs.Conditions.{Term, same, apart, term_of, term_at, terms_from}
use Rattle.buffers.specs.Lists.{All}
use Rattle.sheet.proofs.ChainEnds.{terms_end, terms_step, next-on}
use Rattle.equality.specs.Meaning.{any_term}
use Rattle.equality.specs.Node.{Decisions, class_of, classes, share, marked, marked_apart, Value, is_true, is_false, is_open, value, true_or_open_apart, passed_over, ground, split, open_or, ground_or_split}
use Rattle.buffers.proofs.Lists.{all_map, all_first, all_second, all_both}
use Rattle.equality.proofs.Passing.{Passing}
use Rattle.equality.proofs.Some.{any_false, any_none, some_none}
use Rattle.equality.proofs.Node.{open_same, settled_by_classes, unsettled_value, passed_by}
use Rattle.equality.specs.Opens.{closed_term}
use Rattle.equality.proofs.Steps.{open_not_closed, not_closed_open, apart-closed, apart_closes}
use Rattle.classes.specs.Pairs.{set_apart}
use Rattle.classes.proofs.Maps.{class_map, class_within}
use Rattle.marks.specs.Marks.{mark_at, Marks}
use Rattle.marks.proofs.Marks.{marks_at}
use Rattle.scan.specs.Place.{PassesTo}

-- ---- parts of a condition

-- None of these terms is true or an open "apart" term. They may be what is left of a condition's chain, so the condition is not spoken of (`passed_over`).
abbrev pub NonePasses : Decisions → List Term → Type 0
NonePasses ds ts = any_term (λ t. true_or_open_apart t (value ds t)) ts ≡ false

-- Where a condition is not passed over, none of its last terms is true or an open "apart" term.
pub rest_passes_none : (ds : Decisions) (before after : List Term) → passed_over ds (before ++ after) ≡ false → NonePasses ds after
rest_passes_none ds before after e =
    any_false (λ t. true_or_open_apart t (value ds t)) after
    (all_second (λ t. true_or_open_apart t (value ds t) ≡ false) before after (some_none (λ t. true_or_open_apart t (value ds t)) (before ++ after) e))

-- Each of such terms is open or false, by the marks.
open_values : (ds : Decisions) (ts : List Term) → NonePasses ds ts → All (λ t. value ds t ≡ open_same ds t) ts
open_values ds ts e =
    all_map (λ t f. unsettled_value ds t (sym (settled_by_classes ds t) ∙ f)) ts (any_none (λ t. true_or_open_apart t (value ds t)) ts e)

-- A "same" term among them has lots that share no class.
unshared : (ds : Decisions) (a b : ℕ) → value ds (same a b) ≡ open_same ds (same a b) → share ds a b ≡ false
unfolding value
unshared ds a b = go (share ds a b) (marked_apart ds a b)
  where
    go : (p q : Bool) → cond p is_true (cond q is_false is_open) ≡ cond q is_false is_open → p ≡ false
    go true true e = absurd (let z : ◌≡◌ {A = ℕ} 0 1 = cc in omega arith)
    go true false e = absurd (let z : ◌≡◌ {A = ℕ} 0 1 = cc in omega arith)
    go false q e = refl

-- ---- terms of which none is open

false_open : {v : Value} → v ≡ is_open → v ≡ is_false → ⊥
false_open o f = let z : ◌≡◌ {A = ℕ} 0 1 = cc in omega arith

abbrev pub NoneOpen : Decisions → List Term → Type 0
NoneOpen ds ts = All (λ t. value ds t ≢ is_open) ts

pub none-ground : (ds : Decisions) (ts : List Term) → NoneOpen ds ts → (c : ℕ) → ground_or_split ds c ts ≡ ground c
unfolding ground_or_split
none-ground ds ts none c = ap (ground_or_split ds c) (sym (append-nil ts)) ∙ passed_by ds c ts [] none

-- Once a pair is set apart, what was not open is not,
module _ (ds : Decisions) (a b : ℕ) where
  closed_later : (t : Term) → closed_term ds t ≡ true → closed_term (apart a b ∷ ds) t ≡ true
  closed_later (same u v) e = apart-closed ds a b u v e
  closed_later (apart u v) e = apart-closed ds a b u v e

  closed_stays : (t : Term) → value ds t ≢ is_open → value (apart a b ∷ ds) t ≢ is_open
  closed_stays t n = go (closed_term ds t) refl
    where
      go : (p : Bool) → closed_term ds t ≡ p → value (apart a b ∷ ds) t ≢ is_open
      go true e = λ o. false≢true (sym (open_not_closed (apart a b ∷ ds) t o) ∙ closed_later t e)
      go false e = absurd (n (not_closed_open ds t e))

  pub none_later : (ts : List Term) → NoneOpen ds ts → NoneOpen (apart a b ∷ ds) ts
  none_later ts none = all_map closed_stays ts none

  -- and the pair is not either.
  pair_later : value (apart a b ∷ ds) (same a b) ≢ is_open
  pair_later o = false≢true (sym (open_not_closed (apart a b ∷ ds) (same a b) o) ∙ apart_closes ds a b)

-- ---- the loop

-- What `marked_apart` answers, by the map's classes and the pairs;
abbrev pub marks_of : List ℕ → List ℕ → ℕ → ℕ → ℕ → Bool
marks_of lots pairs count a b = marked lots (set_apart pairs count) (class_of lots a) (class_of lots b)

-- what a table has, by the classes of two lots.
abbrev pub table_of : List ℕ → List ℕ → ℕ → ℕ → ℕ → Bool
table_of lots bytes table a b = mark_at bytes table (class_of lots a) (class_of lots b)

-- A table that is marked for the decisions has their marks between classes.
pub table-says : {lots bytes : List ℕ} {table : ℕ} {ds : Decisions} → lots ≡ classes ds → Marks bytes table lots ds
    → (a b : ℕ) → share ds a b ≡ false → table_of lots bytes table a b ≡ marked_apart ds a b
table-says {ds = ds} e m a b n =
    rw e (marks_at (rw e at m) _ _ (class_within (class_map ds) a) (class_within (class_map ds) b) (eqb-false _ _ n))

-- A term that the classes do not make true is open, by these marks: it is "same", and its classes are not marked apart. So a loop that leaves at the first
-- open term has passed terms of which this is false (`Passing`).
abbrev pub open_by : (ℕ → ℕ → Bool) → Term → Bool
open_by marks (same a b) = not (marks a b)
open_by marks (apart a b) = false

-- A record's term by its sign.
pub sign_same : (sign a b : ℕ) → sign ≡ 1 → term_of sign a b ≡ same a b
sign_same sign a b e = rw e

pub sign_apart : (sign a b : ℕ) → sign ≢ 1 → term_of sign a b ≡ apart a b
sign_apart sign a b n = rw (ne_eqb sign same_sign n)

module _ (marks : ℕ → ℕ → Bool) (s : List ℕ) (ok : Accepted s) (from at : ℕ) (l : Passing (open_by marks) s from at) where
  -- For decisions that have these marks between classes, and do not make any of the terms true:
  module _ (ds : Decisions) (says : (a b : ℕ) → share ds a b ≡ false → marks a b ≡ marked_apart ds a b) (none : NonePasses ds (terms_from s from)) where
    values : All (λ t. value ds t ≡ open_same ds t) (l.passed ++ terms_from s at)
    values = rw l.place at (open_values ds (terms_from s from) none)

    not_open : (t : Term) → open_by marks t ≡ false → value ds t ≡ open_same ds t → value ds t ≢ is_open
    not_open (same a b) e v o = false_open (sym v ∙ o) (ap (λ p. cond p is_false is_open) (sym (says a b (unshared ds a b v)) ∙ not-false (marks a b) e))
    not_open (apart a b) e v o = false_open (sym v ∙ o) refl

    none_passed : NoneOpen ds l.passed
    none_passed = go l.passed l.falses (all_first _ l.passed (terms_from s at) values)
      where
        go : (ts : List Term) → All (λ t. open_by marks t ≡ false) ts → All (λ t. value ds t ≡ open_same ds t) ts → NoneOpen ds ts
        go [] e v = tt
        go (t ∷ ts) e v = (not_open t e.0 v.0, go ts e.1 v.1)

    -- they may be looked at from here on;
    pub passed-resumes : PassesTo s from at ds
    passed-resumes = record { on = l.on; passed = l.passed; place = l.place; closed = none-ground ds l.passed none_passed }

    -- where the chain ends, none is open;
    pub none_open : at ≡ 0 → (c : ℕ) → ground c ≡ ground_or_split ds c (terms_from s from)
    none_open e c =
        let whole : terms_from s from ≡ l.passed =
        l.place ∙ ap (λ (r : ℕ). l.passed ++ terms_from s r) e ∙ ap (λ (ts : List Term). l.passed ++ ts) (terms_end s) ∙ append-nil l.passed in
        rw whole (sym (none-ground ds l.passed none_passed c))

    -- a "same" term that is not marked is the first open one,
    pub open_here : (a b : ℕ) → 1 ≤ at → term_at s at ≡ same a b → marks a b ≡ false → (c : ℕ) → split a b ≡ ground_or_split ds c (terms_from s from)
    unfolding ground_or_split
    open_here a b h t e c =
        let step : terms_from s at ≡ same a b ∷ terms_from s (next_at s at) =
        terms_step s ok at h l.on.within ∙ ap (λ (u : Term). u ∷ terms_from s (next_at s at)) t in
        let here : value ds (same a b) ≡ open_same ds (same a b) = (rw step at (all_second _ l.passed (terms_from s at) values)).0 in
        let opened : value ds (same a b) ≡ is_open = here ∙ ap (λ p. cond p is_false is_open) (sym (says a b (unshared ds a b here)) ∙ e) in
        sym
        (ap (ground_or_split ds c) l.place
        ∙ passed_by ds c l.passed (terms_from s at) none_passed
        ∙ ap (ground_or_split ds c) step
        ∙ ap (λ (v : Value). open_or (same a b) v (ground_or_split ds c (terms_from s (next_at s at)))) opened)

    -- and once its lots are set apart no term up to it is open.
    pub open_leaves : (a b : ℕ) → 1 ≤ at → term_at s at ≡ same a b → PassesTo s from (next_at s at) (apart a b ∷ ds)
    open_leaves a b h t =
        record {
          on = next-on s ok at h l.on;
          passed = l.passed ++ term_at s at ∷ [];
          place =
              l.place
              ∙ ap (λ (ts : List Term). l.passed ++ ts) (terms_step s ok at h l.on.within)
              ∙ sym (append_assoc l.passed (term_at s at ∷ []) (terms_from s (next_at s at)));
          closed =
              none-ground (apart a b ∷ ds) (l.passed ++ term_at s at ∷ [])
              (all_both _ l.passed (term_at s at ∷ []) (none_later ds a b l.passed none_passed) (rw t (pair_later ds a b), tt));
        }
