-- What the entry point ensures: the answer, and what it means.
use Prim.Native.Nat.{ℕ}
use mathlib.Core.List.{List}
use mathlib.Core.Path.{◌≡◌, refl, sym, ap, ◌∙◌}
use Rattle.sheet.specs.Verdicts.{Verdict, Passes, Refuses}
use Rattle.sheet.specs.Conditions.{conditions}
use Rattle.sheet.specs.Answers.{Answer, answered, answer_of}
use Rattle.equality.specs.Evaluator.{grouping_verdict, number_in}
use Rattle.reassignment.specs.Count.{unmet_count, count_answer}
use Rattle.reassignment.proofs.Counting.{count_meets, sheet_most, counts, counted, count-evaluates, refused_alike}
use Rattle.counter.specs.Answers.{CountMeans}

module _ (s grouping : List ℕ) where
  abbrev unmet : ℕ
  unmet = unmet_count (number_in grouping) (conditions s)

  -- The checks' verdict decides.
  pub answer_by_lem : (v : Verdict) → grouping_verdict s grouping ≡ v → answer_of v (answered unmet 0 0) ≡ count_answer s grouping
  unfolding count_answer
  answer_by_lem v e = sym (ap (λ (w : Verdict). answer_of w (answered unmet 0 0)) e)

  means : CountMeans (count_answer s grouping) s grouping
  means = rw (sym (answer_by_lem (grouping_verdict s grouping) refl)) (by (grouping_verdict s grouping) refl)
    where
      by : (v : Verdict) → grouping_verdict s grouping ≡ v → CountMeans (answer_of v (answered unmet 0 0)) s grouping
      by Passes q = (
        sheet_most s (number_in grouping),
        (
          (λ z. (count-evaluates s grouping).0 (counts s grouping q ∙ ap (λ (x : ℕ). answered x 0 0) z)),
          (λ e. sym (counted s grouping 0 ((count-evaluates s grouping).1 e)).1),
        ),
        count_meets (number_in grouping) (conditions s),
      )
      by (Refuses check place) q = (refused_alike s grouping check place).0 (sym (answer_by_lem (Refuses check place) q))

  -- ---- all that the entry point ensures

  pub ensured : {a : Answer} → a ≡ count_answer s grouping → record { answer : a ≡ count_answer s grouping; meaning : CountMeans a s grouping }
  ensured e = record { answer = e; meaning = rw e means }
