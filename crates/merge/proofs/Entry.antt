-- All that the entry point ensures, from the verdict of its checks.
use Prim.Native.Nat.{ℕ, max}
use mathlib.Core.List.{List}
use mathlib.Core.Logic.{◌↔◌}
use mathlib.Core.Path.{◌≡◌, refl, sym, subst, ◌∙◌}
use Rattle.sheet.specs.Verdicts.{Verdict}
use Rattle.sheet.specs.Format.{lot_count}
use Rattle.sheet.specs.Checks.{Accepted}
use Rattle.sheet.specs.Conditions.{conditions}
use Rattle.sheet.specs.Answers.{Answer, refused, answered}
use Rattle.writer.specs.Answers.{output_after, OfWritten}
use Rattle.equality.specs.Meaning.{Meets}
use Rattle.repack.specs.Repack.{repacked}
use Rattle.repeats.specs.Repeats.{has_terms, merged_conditions}
use Rattle.std.specs.Prelude.{Result, Err}
use Rattle.sheet.specs.declared.refusal.Refusal.{Refusal}
use Rattle.sheet.specs.Refusals.{check_of, place_of}
use Rattle.sheet.specs.Verdicts.{Refuses}
use Rattle.merge.specs.declared.MergeRefusal.{MergeRefusal}
use Rattle.merge.specs.declared.MergeRefusal.TheVariants.{Both}
use Rattle.merge.specs.Merge.{which_refused, merged, merge_verdict, merge_answer, merge_out}
use Rattle.merge.specs.Answers.{merged_answer, sheet_refused}
use Rattle.merge.specs.Promises.{MeetsBoth, Placed}
use Rattle.merge.proofs.Merged.{merged-accepted, merged-lots, merged-conditions, merged-packed, merged-meets}
use Rattle.merge.proofs.Places.{placed}
use Rattle.merge.proofs.Answering.{which_neither, answer_by, answer_by_lem, output_by, Fitted, fitted}

module _ (s t out : List ℕ) where
  -- ---- the equations

  -- Of the answer, of the sheet that it names, and of the output.
  abbrev pub Equations : Result ℕ MergeRefusal → List ℕ → Type 0
  Equations r out' =
      record {
        answer : merged_answer r ≡ merge_answer has_terms s t out;
        sheet : sheet_refused r ≡ which_refused s t;
        output : out' ≡ merge_out has_terms s t out;
      }

  -- The verdict decides.
  pub equations : (v : Verdict) → merge_verdict has_terms s t out ≡ v → (r : Result ℕ MergeRefusal) (out' : List ℕ)
      → merged_answer r ≡ answer_by has_terms s t v → sheet_refused r ≡ which_refused s t → out' ≡ output_after (answer_by has_terms s t v) (merged has_terms s t) out
      → Equations r out'
  equations v e r out' told sheet left =
      record { answer = told ∙ sym (answer_by_lem has_terms s t out v e); sheet = sheet; output = left ∙ sym (output_by has_terms s t out v e) }

  -- A refusal of both sheets together: nothing is written.
  pub both_refused : Accepted s → Accepted t → (r : Refusal) {check place : ℕ} → merge_verdict has_terms s t out ≡ Refuses check place
      → refused (check_of r) (place_of r) ≡ refused check place → Equations (Err (Both r)) out
  both_refused first second r verdict told =
      equations (Refuses _ _) verdict (Err (Both r)) out told (sym (which_neither s t first second)) refl

  -- ---- what is written

  -- What holds of the merged sheet, where it is within its limits, holds of what is written.
  of_written : (P : List ℕ → Type 0) → ((n : ℕ) → Fitted has_terms s t out n → P (merged has_terms s t)) → (a : Answer) → a ≡ merge_answer has_terms s t out
      → OfWritten P a (merge_out has_terms s t out)
  of_written P holds (refused check place) e = tt
  of_written P holds (answered n second third) e =
      let f = fitted has_terms s t out n second third e in
      subst P (sym f.bytes) (holds n f)

  -- An assignment with values of any type meets it exactly when it meets both sheets. (A contract's clause cannot speak of all types: this one is a theorem only.)
  pub written_meets_any : {A : Type 0} (f : ℕ → A) (a : Answer) → a ≡ merge_answer has_terms s t out
      → OfWritten (λ (w : List ℕ). Meets f w ↔ Meets f s × Meets f t) a (merge_out has_terms s t out)
  written_meets_any f =
      of_written (λ (w : List ℕ). Meets f w ↔ Meets f s × Meets f t) (λ n l. merged-meets has_terms s t l.first l.second l.few l.short f)

  -- ---- all clauses

  abbrev pub Ensured : Result ℕ MergeRefusal → List ℕ → Type 0
  Ensured r out' =
      record {
        answer : merged_answer r ≡ merge_answer has_terms s t out;
        sheet : sheet_refused r ≡ which_refused s t;
        output : out' ≡ merge_out has_terms s t out;
        accepted : OfWritten (λ w. Accepted w) (merged_answer r) out';
        packed : OfWritten (λ w. repacked w ≡ w) (merged_answer r) out';
        lots : OfWritten (λ w. lot_count w ≡ max (lot_count s) (lot_count t)) (merged_answer r) out';
        conditions : OfWritten (λ w. conditions w ≡ merged_conditions has_terms s t) (merged_answer r) out';
        meets : OfWritten (λ w. MeetsBoth w s t) (merged_answer r) out';
        places : OfWritten (λ w. Placed w s t) (merged_answer r) out';
      }

  pub ensured : (r : Result ℕ MergeRefusal) (out' : List ℕ) → Equations r out' → Ensured r out'
  ensured r out' e =
      let a = merged_answer r in
      let answer = e.answer in
      let output = e.output in
      record {
        answer = answer;
        sheet = e.sheet;
        output = output;
        accepted = rw output (of_written (λ w. Accepted w) (λ n l. merged-accepted has_terms s t l.first l.second l.few l.short) a answer);
        packed = rw output (of_written (λ w. repacked w ≡ w) (λ n l. merged-packed has_terms s t l.first l.second l.few l.short) a answer);
        lots =
            rw output
            (of_written (λ w. lot_count w ≡ max (lot_count s) (lot_count t)) (λ n l. merged-lots has_terms s t l.first l.second l.few l.short) a answer);
        conditions =
            rw output
            (of_written (λ w. conditions w ≡ merged_conditions has_terms s t) (λ n l. merged-conditions has_terms s t l.first l.second l.few l.short) a answer);
        meets = rw output (of_written (λ w. MeetsBoth w s t) (λ n l f. merged-meets has_terms s t l.first l.second l.few l.short f) a answer);
        places =
            rw output
            (of_written (λ w. Placed w s t)
            (λ n l. placed (merged has_terms s t) s t (merged-conditions has_terms s t l.first l.second l.few l.short)) a answer);
      }
