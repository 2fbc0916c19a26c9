-- The search's promises, with a limit or without one, follow from its case and from the equations for the two buffers.
use Prim.Native.Nat.{ℕ, ◌*◌, ◌≤◌, ◌<◌}
use mathlib.Core.Bool.{Bool, true, false, false≢true}
use mathlib.Core.List.{List}
use mathlib.Core.Logic.{◌≢◌, ◌↔◌}
use mathlib.Core.Path.{◌≡◌, refl, sym, ap, subst, ◌∙◌}
use native.Mathlib.Decide.{ℕ_discrete}
use native.Mathlib.Omega.{arith}
use borrow.Author.Tests.{ltb-true, ltb-false, lt-ltb, le-ltb}
use lib.Dec.{ltb}
use lib.ListN.{length, drop}
use lib.Seq.{take_at}
use Rattle.std.specs.Prelude.{Err}
use Rattle.sheet.specs.declared.refusal.Refusal.TheVariants.{FullStore}
use Rattle.sheet.specs.Verdicts.{Verdict, Passes, Refuses}
use Rattle.sheet.specs.Format.{lowest_lot, lot_count}
use Rattle.sheet.specs.Checks.{or_else}
use Rattle.sheet.specs.Conditions.{conditions}
use Rattle.sheet.specs.Answers.{Answer, refused, answered, answer_of}
use Rattle.sheet.proofs.Accepted.{sound}
use Rattle.sheet.proofs.Conditions.{conditions_in}
use Rattle.sheet.proofs.Verdicts.{not-both}
use Rattle.sheet.proofs.Numbered.{refusal_number}
use Rattle.equality.specs.Meaning.{Meets}
use Rattle.equality.specs.Search.{is_met, node_count}
use Rattle.equality.proofs.Sheets.{sheet-branching}
use Rattle.limit.specs.Meaning.{Limit, unlimited, Keeps, CanBeMetUnder}
use Rattle.limit.proofs.Under.{under_decides, under_cannot}
use Rattle.outcome.specs.Nodes.{records}
use Rattle.store.specs.Records.{encode_all, record_length, capacity}
use Rattle.outcome.specs.Outcome.{Result, refused_result, full_result, met_result, cannot_result, met_or_cannot, full_or, result_of, result_answer, grouping_after, store_after}
use Rattle.outcome.specs.Limited.{tree_of, verdict_under, check9_under, search_verdict_under, outcome_under}
use Rattle.outcome.proofs.Checked.{under_passes, under_numbered}
use Rattle.outcome.proofs.Fitting.{bytes_count}
use Rattle.outcome.proofs.Grouping as left
use Rattle.refutation.specs.Refutation.{RefutesUnder, list_verdict_under, check_answer_under}
use Rattle.outcome.proofs.Own.{own_grounds_pass}
use Rattle.search.specs.Answers.{Searched, search_answer}
use Rattle.search.specs.Promises.{answer_case, FullPlace, CountBounded}
use Rattle.search.specs.Limited.{case_under, RefusedExactlyUnder, FullExactlyUnder, FullCaseUnder, MetExactlyUnder, MetGroupingUnder, MetZeroUnder, CannotExactlyUnder, CannotWhicheverUnder, CannotAnyUnder, CannotRefutesUnder}

-- The four results, each with what is known where it is the search's.
data Ends (limit : Limit) (s grouping store : List ℕ) : Result → Type 0 where
  ends-refused : {check place : ℕ} → verdict_under limit s grouping ≡ Refuses check place → Ends limit s grouping store (refused_result check place)
  ends_full : verdict_under limit s grouping ≡ Passes → capacity store < node_count (tree_of limit s) → Ends limit s grouping store (full_result (capacity store))
  ends-met : verdict_under limit s grouping ≡ Passes → node_count (tree_of limit s) ≤ capacity store → is_met (tree_of limit s) ≡ true
      → Ends limit s grouping store (met_result (tree_of limit s))
  ends_cannot : verdict_under limit s grouping ≡ Passes → node_count (tree_of limit s) ≤ capacity store → is_met (tree_of limit s) ≡ false
      → Ends limit s grouping store (cannot_result (tree_of limit s))

ends : (limit : Limit) (s grouping store : List ℕ) → Ends limit s grouping store (result_of (verdict_under limit s grouping) (capacity store) (tree_of limit s))
unfolding result_of
ends limit s grouping store = by_verdict (verdict_under limit s grouping) refl
  where
    passed : verdict_under limit s grouping ≡ Passes → (full m : Bool) → ltb (capacity store) (node_count (tree_of limit s)) ≡ full
        → is_met (tree_of limit s) ≡ m
        → Ends limit s grouping store (full_or full (capacity store) (met_or_cannot m (tree_of limit s)))
    passed v true m f e = ends_full v (ltb-true _ _ f)
    passed v false true f e = ends-met v (ltb-false _ _ f) e
    passed v false false f e = ends_cannot v (ltb-false _ _ f) e

    by_verdict : (v : Verdict) → verdict_under limit s grouping ≡ v → Ends limit s grouping store (result_of v (capacity store) (tree_of limit s))
    by_verdict Passes v = passed v (ltb (capacity store) (node_count (tree_of limit s))) (is_met (tree_of limit s)) refl refl
    by_verdict (Refuses check place) v = ends-refused v

-- A refutation is a list that the checker answers by passing it,
passing_answer : (limit : Limit) (s list : List ℕ) → RefutesUnder limit s list → check_answer_under limit lowest_lot s list ≡ answered 0 0 0
unfolding check_answer_under
passing_answer limit s list passes = ap (λ (v : Verdict). answer_of v (answered 0 0 0)) passes

-- and what it passes is one.
pub answer_passing : (limit : Limit) (s list : List ℕ) → check_answer_under limit lowest_lot s list ≡ answered 0 0 0 → RefutesUnder limit s list
unfolding check_answer_under
answer_passing limit s list e = go (list_verdict_under limit lowest_lot s list) e
  where
    go : (v : Verdict) → answer_of v (answered 0 0 0) ≡ answered 0 0 0 → v ≡ Passes
    go Passes e = refl
    go (Refuses check place) e = let z : ◌≡◌ {A = ℕ} 0 1 = cc in absurd (omega arith)

-- A refusal is no answer with values.
refused-answered : {check place first second third : ℕ} → refused check place ≡ answered first second third → ⊥
refused-answered e = let z : ◌≡◌ {A = ℕ} 0 1 = cc in omega arith

module _ (limit : Limit) (s grouping store : List ℕ) where
  -- The first check that refuses, by what the search comes to.
  verdict_refused : {check place : ℕ} → verdict_under limit s grouping ≡ Refuses check place → search_verdict_under limit s grouping store ≡ Refuses check place
  unfolding search_verdict_under
  verdict_refused v = ap (λ (w : Verdict). or_else w (check9_under limit s store)) v

  verdict_full : verdict_under limit s grouping ≡ Passes → capacity store < node_count (tree_of limit s)
      → search_verdict_under limit s grouping store ≡ Refuses 9 (capacity store)
  unfolding search_verdict_under check9_under
  verdict_full v more = ap (λ (w : Verdict). or_else w (check9_under limit s store)) v ∙ rw (lt-ltb _ _ more)

  verdict_passes : verdict_under limit s grouping ≡ Passes → node_count (tree_of limit s) ≤ capacity store → search_verdict_under limit s grouping store ≡ Passes
  unfolding search_verdict_under check9_under
  verdict_passes v fits = ap (λ (w : Verdict). or_else w (check9_under limit s store)) v ∙ rw (le-ltb _ _ fits)

module _ (limit : Limit) (s grouping store : List ℕ) (a : Answer) (e : a ≡ (outcome_under limit s grouping store).answer) where
  -- What holds of every result, with what is known where it is the search's, holds of the search.
  by_ends : (P : Answer → Type 0) → ((result : Result) → Ends limit s grouping store result → P (result_answer result)) → P a
  unfolding outcome_under
  by_ends P h = subst P (sym e) (h _ (ends limit s grouping store))

  -- The number of a check that refuses before the search is not 9.
  not_nine : {check place : ℕ} → verdict_under limit s grouping ≡ Refuses check place → check ≢ 9
  not_nine v = (refusal_number (under_numbered limit s grouping) v).1

  -- A refusal has a number that is not 0.
  pub refused-first : (check place : ℕ) → a ≡ refused check place → 1 ≤ check
  refused-first = by_ends (λ (o : Answer). (check place : ℕ) → o ≡ refused check place → 1 ≤ check) go
    where
      go : (result : Result) → Ends limit s grouping store result → (check place : ℕ) → result_answer result ≡ refused check place → 1 ≤ check
      go result (ends-refused {check = c} v) check place q = let same : c ≡ check = cc in omega (arith, same, (refusal_number (under_numbered limit s grouping) v).0)
      go result (ends_full v more) check place q = let nine : ◌≡◌ {A = ℕ} 9 check = cc in omega (arith, nine)
      go result (ends-met v fits m) check place q = absurd (refused-answered (sym q))
      go result (ends_cannot v fits m) check place q = absurd (refused-answered (sym q))

  -- ---- refused, and full

  pub refused-exactly : RefusedExactlyUnder limit a s grouping store
  refused-exactly = by_ends (λ (o : Answer). RefusedExactlyUnder limit o s grouping store) go
    where
      go : (result : Result) → Ends limit s grouping store result → RefusedExactlyUnder limit (result_answer result) s grouping store
      go result (ends-refused v) check place = let u = verdict_refused limit s grouping store v in (λ q. cc, λ q. cc)
      go result (ends_full v more) check place = let u = verdict_full limit s grouping store v more in (λ q. cc, λ q. cc)
      go result (ends-met v fits m) check place =
          (λ q. absurd (refused-answered (sym q)), λ q. absurd (not-both (verdict_passes limit s grouping store v fits) q))
      go result (ends_cannot v fits m) check place =
          (λ q. absurd (refused-answered (sym q)), λ q. absurd (not-both (verdict_passes limit s grouping store v fits) q))

  pub full_exactly : FullExactlyUnder limit a s grouping store
  full_exactly = by_ends (λ (o : Answer). FullExactlyUnder limit o s grouping store) go
    where
      go : (result : Result) → Ends limit s grouping store result → FullExactlyUnder limit (result_answer result) s grouping store
      go result (ends-refused v) = (λ q. absurd (not_nine v cc), λ q. absurd (not-both q.0 v))
      go result (ends_full v more) = (λ q. (v, more), λ q. refl)
      go result (ends-met v fits m) = (λ q. absurd (refused-answered (sym q)), λ q. absurd (omega (arith, q.1)))
      go result (ends_cannot v fits m) = (λ q. absurd (refused-answered (sym q)), λ q. absurd (omega (arith, q.1)))

  pub full_place : FullPlace a store
  full_place = by_ends (λ (o : Answer). FullPlace o store) go
    where
      go : (result : Result) → Ends limit s grouping store result → FullPlace (result_answer result) store
      go result (ends-refused v) place q = absurd (not_nine v cc)
      go result (ends_full v more) place q = cc
      go result (ends-met v fits m) place q = absurd (refused-answered (sym q))
      go result (ends_cannot v fits m) place q = absurd (refused-answered (sym q))

  -- The case of an answer that is so.
  pub full_told : (r : Searched) → r ≡ case_under limit s grouping store → search_answer r ≡ a → FullCaseUnder limit r s grouping store
  unfolding case_under result_of
  full_told r case told most = (full_by, λ full. case ∙ ap answer_case full)
    where
      full_by : r ≡ Err (FullStore most) → result_of (verdict_under limit s grouping) (capacity store) (tree_of limit s) ≡ full_result most
      full_by is =
          let nine : a ≡ refused 9 most = sym told ∙ ap search_answer is in
          let whole : most ≡ capacity store = full_place most nine in
          let (passes, more) = full_exactly.0 (nine ∙ ap (refused 9) whole) in
          rw (passes, lt-ltb (capacity store) (node_count (tree_of limit s)) more) (ap full_result (sym whole))

  -- ---- met

  -- What the tree of an accepted sheet decides.
  decides : verdict_under limit s grouping ≡ Passes → (is_met (tree_of limit s) ≡ true ↔ CanBeMetUnder limit s)
  decides v =
      let ok = (under_passes limit s grouping v).0 in
      under_decides limit (lot_count s) (conditions s) (conditions_in s ok) (sound s ok).header.lots

  cannot : verdict_under limit s grouping ≡ Passes → is_met (tree_of limit s) ≡ false → {A : Type 0} → ((x y : A) → Dec (x ≡ y)) → (f : ℕ → A)
      → Keeps limit (lot_count s) f → ¬ Meets f s
  cannot v m decide f keeps' meets =
      let ok = (under_passes limit s grouping v).0 in
      under_cannot limit (lot_count s) (conditions s) (conditions_in s ok) (sound s ok).header.lots decide f m meets keeps'

  pub met-exactly : MetExactlyUnder limit a s
  met-exactly = by_ends (λ (o : Answer). MetExactlyUnder limit o s) go
    where
      go : (result : Result) → Ends limit s grouping store result → MetExactlyUnder limit (result_answer result) s
      go result (ends-refused v) = tt
      go result (ends_full v more) = tt
      go result (ends-met v fits m) = (λ met. (decides v).0 m, λ some. refl)
      go result (ends_cannot v fits m) = (λ e. absurd (omega (arith, e)), λ some. absurd (false≢true (sym m ∙ (decides v).1 some)))

  pub met-grouping : (grouping' : List ℕ) → grouping' ≡ (outcome_under limit s grouping store).grouping → MetGroupingUnder limit a s grouping'
  unfolding outcome_under
  met-grouping grouping' q = rw (e, q) (go _ (ends limit s grouping store))
    where
      go : (result : Result) → Ends limit s grouping store result → MetGroupingUnder limit (result_answer result) s (grouping_after (lot_count s) result grouping)
      go result (ends-refused v) = tt
      go result (ends_full v more) = tt
      go result (ends-met v fits m) = λ met. left.met-grouping limit s (under_passes limit s grouping v).0 m grouping
      go result (ends_cannot v fits m) = λ e. absurd (omega (arith, e))

  pub met_zero : (grouping' : List ℕ) → grouping' ≡ (outcome_under limit s grouping store).grouping → MetZeroUnder limit a s grouping'
  unfolding outcome_under
  met_zero grouping' q = rw (e, q) (go _ (ends limit s grouping store))
    where
      go : (result : Result) → Ends limit s grouping store result → MetZeroUnder limit (result_answer result) s (grouping_after (lot_count s) result grouping)
      go result (ends-refused v) = tt
      go result (ends_full v more) = tt
      go result (ends-met v fits m) = λ met. left.met_zero limit s (under_passes limit s grouping v).0 m grouping
      go result (ends_cannot v fits m) = λ e. absurd (omega (arith, e))

  -- ---- cannot

  pub cannot_exactly : CannotExactlyUnder limit a s
  cannot_exactly = by_ends (λ (o : Answer). CannotExactlyUnder limit o s) go
    where
      go : (result : Result) → Ends limit s grouping store result → CannotExactlyUnder limit (result_answer result) s
      go result (ends-refused v) = tt
      go result (ends_full v more) = tt
      go result (ends-met v fits m) =
          (λ e. absurd (omega (arith, e)), λ nobody. let some = (decides v).0 m in absurd (nobody some.0 some.1 some.2 some.3))
      go result (ends_cannot v fits m) = (λ two f zero keeps' meets. cannot v m ℕ_discrete f keeps' meets, λ nobody. refl)

  pub cannot_whichever : CannotWhicheverUnder limit a s
  cannot_whichever = by_ends (λ (o : Answer). CannotWhicheverUnder limit o s) go
    where
      go : (result : Result) → Ends limit s grouping store result → CannotWhicheverUnder limit (result_answer result) s
      go result (ends-refused v) = tt
      go result (ends_full v more) = tt
      go result (ends-met v fits m) = λ e. absurd (omega (arith, e))
      go result (ends_cannot v fits m) = λ two f. cannot v m ℕ_discrete f

  pub cannot_any : CannotAnyUnder limit a s
  cannot_any count two A decide f = by_ends (λ (o : Answer). o ≡ answered 2 count 0 → Keeps limit (lot_count s) f → ¬ Meets f s) go two
    where
      go : (result : Result) → Ends limit s grouping store result → result_answer result ≡ answered 2 count 0 → Keeps limit (lot_count s) f → ¬ Meets f s
      go result (ends-refused v) q = absurd (refused-answered q)
      go result (ends_full v more) q = absurd (refused-answered q)
      go result (ends-met v fits m) q = let two : ◌≡◌ {A = ℕ} 1 2 = cc in absurd (omega (arith, two))
      go result (ends_cannot v fits m) q = cannot v m decide f

  pub cannot_refutes : (store' : List ℕ) → store' ≡ (outcome_under limit s grouping store).store → CannotRefutesUnder limit a s store'
  unfolding outcome_under
  cannot_refutes store' q = rw (e, q) (go _ (ends limit s grouping store))
    where
      go : (result : Result) → Ends limit s grouping store result → CannotRefutesUnder limit (result_answer result) s (store_after result store)
      go result (ends-refused v) = tt
      go result (ends_full v more) = tt
      go result (ends-met v fits m) = λ e. absurd (omega (arith, e))
      go result (ends_cannot v fits m) = λ two.
          let both = under_passes limit s grouping v in
          let bytes = encode_all (records 1 (tree_of limit s)) in
          rw (take_at bytes (drop (length bytes) store) (record_length * node_count (tree_of limit s)) (bytes_count 1 (tree_of limit s)))
          (passing_answer limit s bytes (own_grounds_pass limit s both.0 both.1 m (omega arith)))

-- ---- the count, without a limit

pub count_bounded : (s grouping store : List ℕ) (a : Answer) → a ≡ (outcome_under unlimited s grouping store).answer → CountBounded a s
count_bounded s grouping store a e = by_ends unlimited s grouping store a e (λ (o : Answer). CountBounded o s) go
  where
    go : (result : Result) → Ends unlimited s grouping store result → CountBounded (result_answer result) s
    go result (ends-refused v) = λ nine. absurd (not_nine unlimited s grouping store a e v nine)
    go result (ends_full v more) = λ nine. omega (arith, sheet-branching s (under_passes unlimited s grouping v).0)
    go result (ends-met v fits m) = omega (arith, sheet-branching s (under_passes unlimited s grouping v).0)
    go result (ends_cannot v fits m) = omega (arith, sheet-branching s (under_passes unlimited s grouping v).0)
