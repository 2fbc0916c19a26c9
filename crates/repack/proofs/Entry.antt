-- All that the entry point ensures, from the verdict of its checks.
use Prim.Native.Nat.{ℕ}
use mathlib.Core.List.{List}
use mathlib.Core.Path.{◌≡◌, sym, subst, ◌∙◌}
use Rattle.sheet.specs.Verdicts.{Verdict}
use Rattle.sheet.specs.Checks.{Accepted}
use Rattle.sheet.specs.Answers.{Answer, refused, answered}
use Rattle.std.specs.Prelude.{Result}
use Rattle.sheet.specs.declared.refusal.Refusal.{Refusal}
use Rattle.writer.specs.Answers.{written_answer, output_after, OfWritten}
use Rattle.repack.specs.Repack.{repacked, repack_verdict, repack_answer, repack_out}
use Rattle.repack.specs.Promises.{Alike, ServedAlike}
use Rattle.repack.proofs.Repacked.{repacked_alike, repacked_served, repacked-again}
use Rattle.repack.proofs.Answering.{answer_by, answer_by_lem, output_by, fitted}

module _ (s out : List ℕ) where
  -- What holds of the packed sheet holds of what is written.
  of_written : (P : List ℕ → Type 0) → (Accepted s → P (repacked s)) → (a : Answer) → a ≡ repack_answer s out → OfWritten P a (repack_out s out)
  of_written P packed (refused check place) e = tt
  of_written P packed (answered n second third) e = let f = fitted s out n second third e in subst P (sym f.first) (packed f.accepted)

  abbrev pub Ensured : Result ℕ Refusal → List ℕ → Type 0
  Ensured r out' =
      record {
        answer : written_answer r ≡ repack_answer s out;
        output : out' ≡ repack_out s out;
        says : OfWritten (λ w. Alike w s) (written_answer r) out';
        again : OfWritten (λ w. repacked w ≡ w) (written_answer r) out';
        alike : OfWritten (λ w. ServedAlike w s) (written_answer r) out';
      }

  -- The verdict decides.
  pub ensured : (v : Verdict) → repack_verdict s out ≡ v → (r : Result ℕ Refusal) (out' : List ℕ)
      → written_answer r ≡ answer_by s v → out' ≡ output_after (answer_by s v) (repacked s) out → Ensured r out'
  ensured v e r out' told left =
      let a = written_answer r in
      let answer = told ∙ sym (answer_by_lem s out v e) in
      let output = left ∙ sym (output_by s out v e) in
      record {
        answer = answer;
        output = output;
        says = rw output (of_written (λ w. Alike w s) (repacked_alike s) a answer);
        again = rw output (of_written (λ w. repacked w ≡ w) (repacked-again s) a answer);
        alike = rw output (of_written (λ w. ServedAlike w s) (repacked_served s) a answer);
      }
