-- The checks that a repacking can fail, 1 to 7 and 17 on the sheet and then 16, and what it answers and leaves by them.
use Prim.Native.Nat.{ℕ, ◌≤◌, ◌<◌}
use mathlib.Core.List.{List, [], ◌∷◌}
use mathlib.Core.Path.{◌≡◌, refl, sym, ap, ◌∙◌}
use native.Mathlib.Omega.{arith}
use lib.ListN.{length, take, drop}
use lib.Seq.{take-append_seam}
use Rattle.sheet.specs.Verdicts.{Verdict, Passes, Refuses}
use Rattle.sheet.specs.Checks.{Accepted, sheet_verdict}
use Rattle.sheet.specs.Answers.{Answer, answered, answer_of}
use Rattle.sheet.proofs.Further.{further_passes}
use Rattle.sheet.proofs.Lengths.{sheet-first, too_short, long_enough, then_numbered}
use Rattle.sheet.proofs.Numbered.{Numbered}
use Rattle.writer.specs.Answers.{output_after}
use Rattle.repack.specs.Repack.{repacked, repacked_length, check16, repack_verdict, repack_verdict_with, repack_answer, repack_answer_with, repack_out, repack_out_with}
use Rattle.repack.proofs.Repacked.{repacked-length}

-- What a verdict has the service answer of a sheet.
abbrev pub answer_by : List ℕ → Verdict → Answer
answer_by s v = answer_of v (answered (repacked_length s) 0 0)

module _ (s out : List ℕ) where
  -- ---- the verdict

  -- A sheet that is refused,
  pub sheet-refused : (check place : ℕ) → sheet_verdict s ≡ Refuses check place → repack_verdict s out ≡ Refuses check place
  unfolding repack_verdict_with check16
  sheet-refused = sheet-first s out 16 (repacked_length s)

  -- an output that is too short,
  pub output_short : Accepted s → length out < repacked_length s → repack_verdict s out ≡ Refuses 16 (repacked_length s)
  unfolding repack_verdict_with check16
  output_short = too_short s out 16 (repacked_length s)

  -- or none of the eight.
  pub all_pass : Accepted s → repacked_length s ≤ length out → repack_verdict s out ≡ Passes
  unfolding repack_verdict_with check16
  all_pass = long_enough s out 16 (repacked_length s)

  -- Where none refuses, the sheet is accepted.
  passes-accepted : repack_verdict s out ≡ Passes → Accepted s
  unfolding repack_verdict_with
  passes-accepted e = (further_passes s (check16 s out ∷ []) e).0

  -- A refusal's number is at least 1 and not 9.
  pub repack_numbered : Numbered (repack_verdict s out)
  unfolding repack_verdict_with check16
  repack_numbered = then_numbered s out 16 (repacked_length s) (omega arith, λ e. omega arith)

  -- ---- the answer, and the output

  -- By the verdict,
  pub answer_by_lem : (v : Verdict) → repack_verdict s out ≡ v → repack_answer s out ≡ answer_by s v
  unfolding repack_answer_with
  answer_by_lem v e = ap (answer_by s) e

  pub output_by : (v : Verdict) → repack_verdict s out ≡ v → repack_out s out ≡ output_after (answer_by s v) (repacked s) out
  unfolding repack_out_with
  output_by v e = ap (λ (a : Answer). output_after a (repacked s) out) (answer_by_lem v e)

  -- so that where a length is answered the sheet is accepted, and the first bytes of the output, so many, are the packed sheet.
  pub record Fitted (n : ℕ) : Type 0 where
    pub accepted : Accepted s
    pub first : take n (repack_out s out) ≡ repacked s

  pub fitted : (n second third : ℕ) → answered n second third ≡ repack_answer s out → Fitted n
  unfolding repack_answer_with
  fitted n second third e = go (repack_verdict s out) refl e
    where
      go : (v : Verdict) → repack_verdict s out ≡ v → answered n second third ≡ answer_by s v → Fitted n
      go (Refuses check place) q e = let z : ◌≡◌ {A = ℕ} 0 1 = cc in absurd (omega arith)
      go Passes q e =
          let told : n ≡ repacked_length s = cc in
          let count = told ∙ sym (repacked-length s) in
          record {
            accepted = passes-accepted q;
            first = rw (output_by Passes q, count) (take-append_seam (repacked s) (drop (length (repacked s)) out));
          }
