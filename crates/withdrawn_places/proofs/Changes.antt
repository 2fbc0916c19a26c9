-- Where it changes a merge that only conditions with terms can be left out (document 02, job 6).
use Prim.Native.Nat.{ℕ, ◌+◌, ◌-◌, ◌*◌, ◌≤◌, ◌<◌}
use mathlib.Core.Bool.{Bool, true, false}
use mathlib.Core.List.{List, [], ◌++◌, flatten}
use mathlib.Core.Logic.{◌⊎◌, inl, inr, ⊎_elim, ◌≢◌}
use mathlib.Core.Path.{◌≡◌, refl, sym, ap, ◌∙◌}
use native.Mathlib.Omega.{arith}
use borrow.Author.Tests.{leb-true, leb-false, ltb-true, ltb-false}
use lib.Dec.{leb, ltb}
use lib.ListN.{length}
use Rattle.buffers.specs.Written.{written}
use Rattle.sheet.specs.Verdicts.{Verdict, Passes, Refuses}
use Rattle.sheet.specs.Format.{most_conditions, most_records}
use Rattle.sheet.specs.Checks.{Accepted, sheet_verdict}
use Rattle.sheet.specs.Conditions.{Term, conditions}
use Rattle.sheet.specs.Answers.{Answer, refused, answered}
use Rattle.repeats.specs.Repeats.{repeats, any_condition, has_terms, merged_conditions}
use Rattle.merge.specs.Merge.{merged, merged_length, check18, check19, merge_verdict, merge_verdict_with, merge_answer, merge_answer_with, merge_out, merge_out_with}
use Rattle.merge.proofs.Answering.{answer_by_lem, output_by, first-refused, second-refused, many_conditions, output_short, all_pass}
use Rattle.withdrawn_places.specs.Changes.{withdrawn_count, Changes, ChangesExactly}
use Rattle.withdrawn_places.proofs.Beside.{empty_count, beside-terms, beside-count, beside_alike}
use Rattle.withdrawn_places.proofs.Counting.{count-append, withdrawn-count}
use Rattle.withdrawn_places.proofs.Cases.{Case, above, terms-above, short, long, case, refused_18, refuses_terms}

-- ---- the two results

module _ (s t : List ℕ) where
  abbrev now : List (List Term)
  now = merged_conditions has_terms s t

  abbrev before : List (List Term)
  before = merged_conditions any_condition s t

  -- They have the same terms;
  pub same-terms : flatten now ≡ flatten before
  unfolding merged_conditions
  same-terms = beside-terms [] (conditions s ++ conditions t)

  module _ (ok : Accepted s) (ok' : Accepted t) where
    together : empty_count (conditions s ++ conditions t) ≡ withdrawn_count s + withdrawn_count t
    together = omega (arith, count-append (conditions s) (conditions t), withdrawn-count s ok, withdrawn-count t ok')

    -- the first has one condition more for each withdrawn one but one,
    pub more_conditions : length now ≡ length before + (withdrawn_count s + withdrawn_count t - 1)
    unfolding merged_conditions repeats
    more_conditions = omega (arith, beside-count [] (conditions s ++ conditions t) false refl, together)

    -- two bytes more for each of these;
    pub more_bytes : merged_length has_terms s t ≡ merged_length any_condition s t + 2 * (withdrawn_count s + withdrawn_count t - 1)
    more_bytes = omega (arith, more_conditions, ap length same-terms)

    -- and where there is at most one they are the same.
    pub same-conditions : withdrawn_count s + withdrawn_count t ≤ 1 → now ≡ before
    unfolding merged_conditions repeats
    same-conditions few = beside_alike [] (conditions s ++ conditions t) false refl (omega (arith, together))

-- ---- the two answers

-- The same refusal by 18.
record Alike18 (v w : Verdict) (a b : Answer) : Type 0 where
  place : ℕ
  now18 : v ≡ Refuses 18 place
  before18 : w ≡ Refuses 18 place
  answer : a ≡ refused 18 place
  answer' : b ≡ refused 18 place

module _ (s t out : List ℕ) where
  -- Where the first result has more conditions, 18 refuses both alike, or the answers differ.
  compare : length (before s t) < length (now s t) → {v w : Verdict} {a b : Answer} → Case has_terms s t out v a → Case any_condition s t out w b → Alike18 v w a b ⊎ (a ≢ b)
  compare more (above p) (above q) = inl (record { place = 2; now18 = refl; before18 = refl; answer = refl; answer' = refl })
  compare more (above p) (terms-above q r) = inr (λ e. let z : ◌≡◌ {A = ℕ} 2 3 = cc in omega arith)
  compare more (above p) (short q r h) = inr (λ e. let z : ◌≡◌ {A = ℕ} 18 19 = cc in omega arith)
  compare more (above p) (long q r h) = inr (λ e. let z : ◌≡◌ {A = ℕ} 0 1 = cc in omega arith)
  compare more (terms-above p r) (above q) = absurd (omega arith)
  compare more (terms-above p r) (terms-above q h) = inl (record { place = 3; now18 = refl; before18 = refl; answer = refl; answer' = refl })
  compare more (terms-above p r) (short q h i) = absurd (omega (arith, ap length (same-terms s t)))
  compare more (terms-above p r) (long q h i) = absurd (omega (arith, ap length (same-terms s t)))
  compare more (short p r h) (above q) = absurd (omega arith)
  compare more (short p r h) (terms-above q i) = absurd (omega (arith, ap length (same-terms s t)))
  compare more (short p r h) (short q i j) =
      inr (λ e. let z : merged_length has_terms s t ≡ merged_length any_condition s t = cc in omega (arith, ap length (same-terms s t)))
  compare more (short p r h) (long q i j) = inr (λ e. let z : ◌≡◌ {A = ℕ} 0 1 = cc in omega arith)
  compare more (long p r h) (above q) = absurd (omega arith)
  compare more (long p r h) (terms-above q i) = absurd (omega (arith, ap length (same-terms s t)))
  compare more (long p r h) (short q i j) = inr (λ e. let z : ◌≡◌ {A = ℕ} 0 1 = cc in omega arith)
  compare more (long p r h) (long q i j) =
      inr (λ e. let z : merged_length has_terms s t ≡ merged_length any_condition s t = cc in omega (arith, ap length (same-terms s t)))

  compared : Accepted s → Accepted t → 2 ≤ withdrawn_count s + withdrawn_count t
      → Alike18 (check18 has_terms s t) (check18 any_condition s t) (merge_answer has_terms s t out) (merge_answer any_condition s t out)
      ⊎ (merge_answer has_terms s t out ≢ merge_answer any_condition s t out)
  compared ok ok' two = compare (omega (arith, more_conditions s t ok ok')) (case has_terms s t out ok ok') (case any_condition s t out ok ok')

  -- ---- unchanged

  -- Answer and output are the same:
  abbrev Same : Type 0
  Same = (merge_answer has_terms s t out ≡ merge_answer any_condition s t out) × (merge_out has_terms s t out ≡ merge_out any_condition s t out)

  -- where both answers are one refusal;
  refused-same : (check place : ℕ) → merge_answer has_terms s t out ≡ refused check place → merge_answer any_condition s t out ≡ refused check place → Same
  unfolding merge_out_with
  refused-same check place e f = (e ∙ sym f, rw (e, f))

  -- and where both results are.
  result-same : now s t ≡ before s t → Same
  unfolding merge_out_with merge_answer_with merge_verdict_with check18 check19
  result-same e = (rw e, rw e)

  -- So it changes, or it is the same.
  by_count : Accepted s → Accepted t → (b : Bool) → leb 2 (withdrawn_count s + withdrawn_count t) ≡ b → Changes s t ⊎ Same
  by_count ok ok' true e =
      let two : 2 ≤ withdrawn_count s + withdrawn_count t = leb-true _ _ e in
      ⊎_elim
      (λ alike. inr (refused-same 18 alike.place alike.answer alike.answer'))
      (λ differ. inl (record {
        first = ok;
        second = ok';
        two = omega arith;
        newly = λ place p q. differ (refused_18 has_terms s t out ok ok' place p ∙ sym (refused_18 any_condition s t out ok ok' place q));
      }))
      (compared ok ok' two)
  by_count ok ok' false e = inr (result-same (same-conditions s t ok ok' (omega (arith, leb-false 2 (withdrawn_count s + withdrawn_count t) e))))

  changes_or_same : Changes s t ⊎ Same
  changes_or_same = go (sheet_verdict s) (sheet_verdict t) refl refl
    where
      by : (check place : ℕ) → ((may_leave_out : List Term → Bool) → merge_verdict may_leave_out s t out ≡ Refuses check place) → Changes s t ⊎ Same
      by check place e =
          inr (refused-same check place (answer_by_lem has_terms s t out (Refuses check place) (e has_terms)) (answer_by_lem any_condition s t out (Refuses check place) (e any_condition)))

      go : (v w : Verdict) → sheet_verdict s ≡ v → sheet_verdict t ≡ w → Changes s t ⊎ Same
      go (Refuses check place) w e f = by check place (λ may. first-refused may s t out check place e)
      go Passes (Refuses check place) e f = by check place (λ may. second-refused may s t out e check place f)
      go Passes Passes e f = by_count e f (leb 2 (withdrawn_count s + withdrawn_count t)) refl

  -- ---- changed

  module _ (c : Changes s t) where
    -- 18 doesn't refuse the terms alone: where it does so, it did before.
    not-terms : length (now s t) ≤ most_conditions → most_records < length (flatten (now s t)) → ⊥
    not-terms few many =
        let fewer : length (before s t) ≤ most_conditions = omega (arith, more_conditions s t c.first c.second) in
        c.newly 3 (refuses_terms has_terms s t out few many) (refuses_terms any_condition s t out fewer (omega (arith, ap length (same-terms s t))))

    terms-few : length (now s t) ≤ most_conditions → length (flatten (now s t)) ≤ most_records
    terms-few few = go (ltb most_records (length (flatten (now s t)))) refl
      where
        go : (b : Bool) → ltb most_records (length (flatten (now s t))) ≡ b → length (flatten (now s t)) ≤ most_records
        go true e = absurd (not-terms few (ltb-true _ _ e))
        go false e = ltb-false _ _ e

    above_now : most_conditions < length (now s t) → merge_answer has_terms s t out ≡ refused 18 2
    above_now many = answer_by_lem has_terms s t out (Refuses 18 2) (many_conditions has_terms s t out c.first c.second many)

    short_now : length (now s t) ≤ most_conditions → length out < merged_length has_terms s t → merge_answer has_terms s t out ≡ refused 19 (merged_length has_terms s t)
    short_now few less = answer_by_lem has_terms s t out (Refuses 19 _) (output_short has_terms s t out c.first c.second few (terms-few few) less)

    long_now : length (now s t) ≤ most_conditions → merged_length has_terms s t ≤ length out
        → (merge_answer has_terms s t out ≡ answered (merged_length has_terms s t) 0 0) × (merge_out has_terms s t out ≡ written (merged has_terms s t) out)
    long_now few enough =
        let passes = all_pass has_terms s t out c.first c.second few (terms-few few) enough in
        (answer_by_lem has_terms s t out Passes passes, output_by has_terms s t out Passes passes)

    differs : merge_answer has_terms s t out ≢ merge_answer any_condition s t out
    differs = ⊎_elim (λ alike. absurd (c.newly alike.place alike.now18 alike.before18)) (λ differ. differ) (compared c.first c.second c.two)

  pub changes_exactly : ChangesExactly s t out
  changes_exactly =
      record {
        exactly = ((λ differ. ⊎_elim (λ c. c) (λ same. absurd (differ same.0)) changes_or_same), differs);
        above = above_now;
        short = short_now;
        long = long_now;
        elsewhere = λ not. ⊎_elim (λ c. absurd (not c)) (λ same. same) changes_or_same;
      }
