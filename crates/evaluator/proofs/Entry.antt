-- The entry point's case and its answer, and what the answer means (theorem 8).
use Prim.Native.Nat.{ℕ, zero, suc, ◌+◌, ◌-◌, ◌≤◌, ◌<◌}
use mathlib.Core.Bool.{false≢true}
use mathlib.Core.List.{List, []}
use mathlib.Core.Path.{◌≡◌, refl, sym, ap, ◌∙◌}
use native.Mathlib.Omega.{arith}
use lib.ListN.{length, get_or}
use Rattle.sheet.specs.Verdicts.{Verdict, Passes, Refuses}
use Rattle.sheet.specs.Conditions.{condition_at, conditions}
use Rattle.sheet.specs.Answers.{answered, answer_of}
use Rattle.sheet.proofs.Conditions.{conditions-length, conditions_at}
use Rattle.equality.specs.Meaning.{meets_condition}
use Rattle.equality.specs.Evaluator.{grouping_verdict, number_in, lowest_unmet, evaluate_answer, evaluate_answer_with}
use Rattle.equality.proofs.Meaning.{condition_decides}
use Rattle.equality.proofs.Evaluator.{evaluator_zero, LowestUnmet, lowest_unmet_lem}
use Rattle.std.specs.Prelude.{Option, Result, Ok, Err}
use Rattle.sheet.specs.declared.Condition.{Condition}
use Rattle.sheet.specs.declared.refusal.Refusal.{Refusal}
use Rattle.sheet.specs.Refusals.{check_of, place_of}
use Rattle.sheet.proofs.Refusals.{refusal_at-numbers}
use Rattle.evaluator.specs.Answers.{evaluation_answer, unmet_answer, unmet_or, evaluate_case, Evaluated}

module _ (s grouping : List ℕ) where
  abbrev unmet : ℕ
  unmet = lowest_unmet (number_in grouping) 1 (conditions s)

  -- ---- what it means

  at : (d : ℕ) → 1 ≤ d → d < 1 + length (conditions s) → get_or (conditions s) (d - 1) [] ≡ condition_at s d
  at d low high =
      let number : suc (d - 1) ≡ d = omega arith in
      conditions_at s (d - 1) (omega (arith, conditions-length s)) ∙ ap (condition_at s) number

  lowest : (c : ℕ) → LowestUnmet (number_in grouping) 1 (conditions s) (suc c) → Evaluated (answered (suc c) 0 0) s grouping
  lowest c l = (
    omega (arith, l.high, conditions-length s),
    (λ h. false≢true (sym l.unmet ∙ ap (meets_condition (number_in grouping)) (at (suc c) l.low l.high) ∙ (condition_decides (number_in grouping) (condition_at s (suc c))).1 h)),
    (λ d low high.
        (condition_decides (number_in grouping) (condition_at s d)).0
        (sym (ap (meets_condition (number_in grouping)) (at d low (omega (arith, l.high)))) ∙ l.earlier d low high)),
  )

  -- Theorem 8.
  means : Evaluated (evaluate_answer s grouping) s grouping
  unfolding evaluate_answer_with
  means = by (grouping_verdict s grouping) unmet refl
    where
      by : (v : Verdict) (c : ℕ) → unmet ≡ c → Evaluated (answer_of v (answered c 0 0)) s grouping
      by (Refuses check place) c e = tt
      by Passes zero e = (evaluator_zero (number_in grouping) (conditions s)).0 e
      by Passes (suc c) e = lowest c (rw e at (lowest_unmet_lem (number_in grouping) 1 (conditions s) (λ z. omega (arith, e, z))))

  -- ---- all that the entry point ensures

  abbrev pub Ensured : Result (Option Condition) Refusal → Type 0
  Ensured r =
      record {
        case : r ≡ evaluate_case s grouping;
        answer : evaluation_answer r ≡ evaluate_answer s grouping;
        meaning : Evaluated (evaluation_answer r) s grouping;
      }

  -- A refusal by the verdict of the checks, and what is found where that passes.
  pub refused_by : (e : Refusal) → grouping_verdict s grouping ≡ Refuses (check_of e) (place_of e) → Ensured (Err e)
  unfolding evaluate_case evaluate_answer_with
  refused_by e by = record { case = rw (by, refusal_at-numbers e); answer = rw by; meaning = tt }

  pub found : {r : Option Condition} → grouping_verdict s grouping ≡ Passes → r ≡ unmet_or unmet → Ensured (Ok r)
  unfolding evaluate_case evaluate_answer_with
  found {r} passes e =
      let answer : evaluation_answer (Ok r) ≡ evaluate_answer s grouping = rw (e, passes) (go unmet) in
      record { case = rw (e, passes); answer = answer; meaning = rw answer means }
    where
      go : (c : ℕ) → unmet_answer (unmet_or c) ≡ answered c 0 0
      go zero = refl
      go (suc c) = refl
