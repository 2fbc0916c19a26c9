-- The checks that a merge can fail: those of reading on the first sheet, then on the second, then 18 and 19; and what it answers and leaves by them.
use Prim.Native.Nat.{ℕ, ◌≤◌, ◌<◌}
use mathlib.Core.Bool.{Bool}
use mathlib.Core.List.{List, [], ◌∷◌, ◌++◌, flatten}
use mathlib.Core.Path.{◌≡◌, refl, sym, ap, subst, ◌∙◌}
use native.Mathlib.Omega.{arith}
use borrow.Author.Tests.{lt-ltb, le-ltb, ltb-false}
use lib.Dec.{ltb}
use lib.ListN.{length, take, drop}
use lib.Seq.{take-append_seam}
use Rattle.sheet.specs.Verdicts.{Verdict, Passes, Refuses}
use Rattle.buffers.specs.Written.{written}
use Rattle.sheet.specs.Format.{most_conditions, most_records, lot_count}
use Rattle.sheet.specs.Checks.{Accepted, or_else, refuses_if, first_refusal, sheet_checks, sheet_verdict}
use Rattle.sheet.specs.Conditions.{Term, conditions}
use Rattle.sheet.specs.Answers.{Answer, answered, answer_of}
use Rattle.sheet.proofs.Verdicts.{or_else-passes, refuses_if-passes}
use Rattle.sheet.proofs.Further.{further, further_accepted, further_passes}
use Rattle.sheet.proofs.Numbered.{Numbered, either, test, sheet_numbered}
use Rattle.writer.specs.Answers.{output_after}
use Rattle.canonical.specs.Canonical.{canonical}
use Rattle.repack.specs.Promises.{Alike}
use Rattle.repeats.specs.Repeats.{without_repeats, has_terms, merged_conditions}
use Rattle.repeats.proofs.Left.{must_stay}
use Rattle.merge.specs.Merge.{which_refused, which_refused_with, merged, merged_length, check18, check19, merge_verdict, merge_verdict_with, merge_answer, merge_answer_with, merge_out, merge_out_with}
use Rattle.merge.proofs.Merged.{merged-length, merged_itself, itself_terms}

-- ---- which sheet is refused

module _ (s t : List ℕ) where
  pub which_first : (check place : ℕ) → sheet_verdict s ≡ Refuses check place → which_refused s t ≡ 1
  unfolding which_refused_with
  which_first check place e = rw e

  pub which_second : Accepted s → (check place : ℕ) → sheet_verdict t ≡ Refuses check place → which_refused s t ≡ 2
  unfolding which_refused_with
  which_second ok check place e = rw (ok, e)

  pub which_neither : Accepted s → Accepted t → which_refused s t ≡ 0
  unfolding which_refused_with
  which_neither ok ok' = rw (ok, ok')

module _ (may_leave_out : List Term → Bool) (s t : List ℕ) where
  abbrev result : List (List Term)
  result = merged_conditions may_leave_out s t

  -- What a verdict has the service answer.
  abbrev pub answer_by : Verdict → Answer
  answer_by v = answer_of v (answered (merged_length may_leave_out s t) 0 0)

  module _ (out : List ℕ) where
    abbrev verdict : Verdict
    verdict = merge_verdict may_leave_out s t out

    -- The checks behind those of both sheets, and behind those of the first.
    abbrev after_both : List Verdict
    after_both = check18 may_leave_out s t ∷ check19 may_leave_out s t out ∷ []

    abbrev after_first : List Verdict
    after_first = sheet_checks t ++ after_both

    -- ---- the verdict

    -- The first sheet is refused;
    pub first-refused : (check place : ℕ) → sheet_verdict s ≡ Refuses check place → verdict ≡ Refuses check place
    unfolding merge_verdict_with
    first-refused check place e = further s after_first ∙ ap (λ (v : Verdict). or_else v (first_refusal after_first)) e

    module _ (ok : Accepted s) where
      -- the second is;
      pub second-refused : (check place : ℕ) → sheet_verdict t ≡ Refuses check place → verdict ≡ Refuses check place
      unfolding merge_verdict_with
      second-refused check place e =
          further_accepted s after_first ok ∙ further t after_both ∙ ap (λ (v : Verdict). or_else v (first_refusal after_both)) e

      module _ (ok' : Accepted t) where
        pub both-accepted : verdict ≡ first_refusal after_both
        unfolding merge_verdict_with
        both-accepted = further_accepted s after_first ok ∙ further_accepted t after_both ok'

        -- the result has too many conditions;
        pub many_conditions : most_conditions < length result → verdict ≡ Refuses 18 2
        unfolding first_refusal check18
        many_conditions h = both-accepted ∙ rw (lt-ltb most_conditions (length result) h)

        module _ (few : length result ≤ most_conditions) where
          -- too many terms;
          pub many_terms : most_records < length (flatten result) → verdict ≡ Refuses 18 3
          unfolding first_refusal check18
          many_terms h = both-accepted ∙ rw (le-ltb most_conditions (length result) few, lt-ltb most_records (length (flatten result)) h)

          module _ (short : length (flatten result) ≤ most_records) where
            within : first_refusal after_both ≡ first_refusal (check19 may_leave_out s t out ∷ [])
            unfolding first_refusal check18
            within = rw (le-ltb most_conditions (length result) few, le-ltb most_records (length (flatten result)) short)

            -- the output is too short;
            pub output_short : length out < merged_length may_leave_out s t → verdict ≡ Refuses 19 (merged_length may_leave_out s t)
            unfolding first_refusal check19
            output_short h = both-accepted ∙ within ∙ rw (lt-ltb (length out) (merged_length may_leave_out s t) h)

            -- or no check refuses.
            pub all_pass : merged_length may_leave_out s t ≤ length out → verdict ≡ Passes
            unfolding first_refusal check19
            all_pass h = both-accepted ∙ within ∙ rw (le-ltb (length out) (merged_length may_leave_out s t) h)

    after_numbered : Numbered (first_refusal after_both)
    unfolding first_refusal check18 check19
    after_numbered =
        let conditions = test (ltb most_conditions (length result)) 18 2 (omega arith, λ e. omega arith) in
        let terms = test (ltb most_records (length (flatten result))) 18 3 (omega arith, λ e. omega arith) in
        let output = test (ltb (length out) (merged_length may_leave_out s t)) 19 (merged_length may_leave_out s t) (omega arith, λ e. omega arith) in
        either (check18 may_leave_out s t) _ (either (refuses_if (ltb most_conditions (length result)) 18 2) _ conditions terms) (either (check19 may_leave_out s t out) Passes output tt)

    -- A refusal's number is at least 1 and not 9.
    pub merge_numbered : Numbered verdict
    unfolding merge_verdict_with
    merge_numbered =
        subst Numbered (sym (further s after_first ∙ ap (or_else (sheet_verdict s)) (further t after_both)))
        (either (sheet_verdict s) _ (sheet_numbered s) (either (sheet_verdict t) _ (sheet_numbered t) after_numbered))

    -- Where none refuses, both sheets are accepted, and the result is within its limits.
    passes-within : verdict ≡ Passes → Accepted s × (Accepted t × ((length result ≤ most_conditions) × (length (flatten result) ≤ most_records)))
    unfolding merge_verdict_with first_refusal check18
    passes-within e =
        let (ok, after) = further_passes s after_first e in
        let (ok', behind) = further_passes t after_both after in
        let limits = (or_else-passes (check18 may_leave_out s t) _ behind).0 in
        let (conditions, terms) = or_else-passes (refuses_if (ltb most_conditions (length result)) 18 2) _ limits in (
          ok,
          (ok', (ltb-false most_conditions (length result) (refuses_if-passes _ 18 2 conditions), ltb-false most_records (length (flatten result)) (refuses_if-passes _ 18 3 terms))),
        )

    -- ---- the answer, and the output

    pub answer_by_lem : (v : Verdict) → verdict ≡ v → merge_answer may_leave_out s t out ≡ answer_by v
    unfolding merge_answer_with
    answer_by_lem v e = ap answer_by e

    pub output_by : (v : Verdict) → verdict ≡ v → merge_out may_leave_out s t out ≡ output_after (answer_by v) (merged may_leave_out s t) out
    unfolding merge_out_with
    output_by v e = ap (λ (a : Answer). output_after a (merged may_leave_out s t) out) (answer_by_lem v e)

    -- Where a length is answered both sheets are accepted, 18 doesn't refuse, and the first bytes of the output, so many, are the merged sheet.
    pub record Fitted (n : ℕ) : Type 0 where
      pub first : Accepted s
      pub second : Accepted t
      pub few : length result ≤ most_conditions
      pub short : length (flatten result) ≤ most_records
      pub bytes : take n (merge_out may_leave_out s t out) ≡ merged may_leave_out s t

    pub fitted : (n second third : ℕ) → answered n second third ≡ merge_answer may_leave_out s t out → Fitted n
    unfolding merge_answer_with
    fitted n second third e = go verdict refl e
      where
        go : (v : Verdict) → verdict ≡ v → answered n second third ≡ answer_by v → Fitted n
        go (Refuses check place) q e = let z : ◌≡◌ {A = ℕ} 0 1 = cc in absurd (omega arith)
        go Passes q e =
            let told : n ≡ merged_length may_leave_out s t = cc in
            let count = told ∙ sym (merged-length may_leave_out s t) in
            let (ok, (ok', (few, short))) = passes-within q in
            record {
              first = ok;
              second = ok';
              few = few;
              short = short;
              bytes = rw (output_by Passes q, count) (take-append_seam (merged may_leave_out s t) (drop (length (merged may_leave_out s t)) out));
            }

-- ---- sheets that say the same

-- They are merged alike: the same answer, and the same bytes.
module _ (may_leave_out : List Term → Bool) (s s' t t' : List ℕ) (alike : Alike s s') (alike' : Alike t t') where
  same-conditions : merged_conditions may_leave_out s t ≡ merged_conditions may_leave_out s' t'
  unfolding merged_conditions
  same-conditions = rw (alike.lists, alike'.lists)

  same_verdict : (out : List ℕ) → merge_verdict may_leave_out s t out ≡ merge_verdict may_leave_out s' t' out
  unfolding check18 check19
  same_verdict out =
      both-accepted may_leave_out s t out alike.first alike'.first
      ∙ (rw same-conditions) ∙ sym (both-accepted may_leave_out s' t' out alike.second alike'.second)

  pub alike_answer : (out : List ℕ) → merge_answer may_leave_out s t out ≡ merge_answer may_leave_out s' t' out
  unfolding merge_answer_with
  alike_answer out = rw (same_verdict out, same-conditions)

  pub alike_output : (out : List ℕ) → merge_out may_leave_out s t out ≡ merge_out may_leave_out s' t' out
  unfolding merge_out_with
  alike_output out = rw (alike_answer out, same-conditions, alike.lots, alike'.lots)

-- ---- a sheet with itself

-- Where 18 doesn't refuse its conditions, and the output is long enough, it is answered and written without its repeats, and with its withdrawn conditions once
-- more.
module _ (s out : List ℕ) (ok : Accepted s) (few : length (merged_conditions has_terms s s) ≤ most_conditions) (room : merged_length has_terms s s ≤ length out) where
  itself_passes : merge_verdict has_terms s s out ≡ Passes
  itself_passes = all_pass has_terms s s out ok ok few (itself_terms s ok) room

  pub itself_answer : merge_answer has_terms s s out ≡ answered (merged_length has_terms s s) 0 0
  itself_answer = answer_by_lem has_terms s s out Passes itself_passes

  pub itself_output : merge_out has_terms s s out ≡ written (canonical (lot_count s) (without_repeats has_terms [] (conditions s) ++ must_stay has_terms (conditions s))) out
  itself_output =
      output_by has_terms s s out Passes itself_passes
      ∙ ap (λ (w : List ℕ). written w out) (merged_itself has_terms s)
