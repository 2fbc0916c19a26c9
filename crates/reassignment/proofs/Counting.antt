-- Laws of the count: 0 exactly where all conditions are met, and where the evaluator answers 0; at most as many as there are conditions.
use Prim.Native.Nat.{ℕ, suc, ◌+◌, ◌≤◌}
use mathlib.Core.Bool.{Bool, true, false, cond}
use mathlib.Core.List.{List, [], ◌∷◌}
use mathlib.Core.Logic.{◌↔◌}
use mathlib.Core.Path.{◌≡◌, refl, ap}
use native.Mathlib.Omega.{arith}
use lib.ListN.{length}
use Rattle.buffers.specs.Lists.{All}
use Rattle.sheet.specs.Verdicts.{Verdict, Passes, Refuses}
use Rattle.sheet.specs.Format.{condition_count}
use Rattle.sheet.specs.Conditions.{Term, BothLots, conditions}
use Rattle.sheet.specs.Answers.{refused, answered, answer_of}
use Rattle.sheet.proofs.Conditions.{conditions-length}
use Rattle.equality.specs.Meaning.{MeetsAll, meets_condition}
use Rattle.equality.specs.Evaluator.{grouping_verdict, number_in, lowest_unmet, evaluate_answer, evaluate_answer_with}
use Rattle.equality.proofs.Agree.{condition_agrees}
use Rattle.equality.proofs.Evaluator.{evaluator_zero}
use Rattle.reassignment.specs.Count.{unmet_one, unmet_count, count_answer}
use Rattle.reassignment.specs.Reassign.{names, naming}

module _ (f : ℕ → ℕ) where
  -- ---- 0

  count_lowest : (c : ℕ) (tss : List (List Term)) → 1 ≤ c → unmet_count f tss ≡ 0 ↔ lowest_unmet f c tss ≡ 0
  unfolding unmet_count lowest_unmet
  count_lowest c [] h = (λ e. e, λ e. e)
  count_lowest c (ts ∷ tss) h = go (meets_condition f ts) (count_lowest (suc c) tss (omega arith))
    where
      go : (p : Bool) → (unmet_count f tss ≡ 0 ↔ lowest_unmet f (suc c) tss ≡ 0) → (cond p 0 1 + unmet_count f tss ≡ 0 ↔ cond p (lowest_unmet f (suc c) tss) c ≡ 0)
      go true rest = ((λ e. rest.0 (omega arith)), (λ e. omega (arith, rest.1 e)))
      go false rest = ((λ e. absurd (omega arith)), (λ e. absurd (omega arith)))

  -- The count is 0 exactly where there is no lowest unmet condition,
  pub count_zero : (tss : List (List Term)) → unmet_count f tss ≡ 0 ↔ lowest_unmet f 1 tss ≡ 0
  count_zero tss = count_lowest 1 tss (omega arith)

  -- that is, where all conditions are met.
  pub count_meets : (tss : List (List Term)) → unmet_count f tss ≡ 0 ↔ MeetsAll f tss
  count_meets tss =
      let lowest = count_zero tss in
      let meets = evaluator_zero f tss in
      ((λ e. meets.0 (lowest.0 e)), (λ h. lowest.1 (meets.1 h)))

  -- ---- at most

  pub one_most : (ts : List Term) → unmet_one f ts ≤ 1
  one_most ts = go (meets_condition f ts)
    where
      go : (p : Bool) → cond p 0 1 ≤ 1
      go true = omega arith
      go false = omega arith

  pub count_most : (tss : List (List Term)) → unmet_count f tss ≤ length tss
  unfolding unmet_count
  count_most [] = omega arith
  count_most (ts ∷ tss) = omega (arith, one_most ts, count_most tss)

-- Two assignments that agree on the lots that conditions name leave as many unmet.
module _ (Named : ℕ → Type 0) (f g : ℕ → ℕ) (agree : (lot : ℕ) → Named lot → f lot ≡ g lot) where
  pub count_agrees : (tss : List (List Term)) → All (All (BothLots Named)) tss → unmet_count f tss ≡ unmet_count g tss
  unfolding unmet_count
  count_agrees [] h = refl
  count_agrees (ts ∷ tss) h = rw (condition_agrees Named f g agree ts h.0, count_agrees tss h.1)

-- What holds of all conditions holds of those that name a lot.
pub naming_all : (P : List Term → Type 0) (lot : ℕ) (tss : List (List Term)) → All P tss → All P (naming lot tss)
unfolding naming
naming_all P lot [] h = tt
naming_all P lot (ts ∷ tss) h = go (names lot ts) (naming_all P lot tss h.1)
  where
    go : (p : Bool) → All P (naming lot tss) → All P (cond p (ts ∷ naming lot tss) (naming lot tss))
    go true rest = (h.0, rest)
    go false rest = rest

-- ---- of a sheet

module _ (s : List ℕ) where
  -- There are at most m.
  pub sheet_most : (f : ℕ → ℕ) → unmet_count f (conditions s) ≤ condition_count s
  sheet_most f = omega (arith, count_most f (conditions s), conditions-length s)

  module _ (grouping : List ℕ) where
    -- Where no check refuses, the service answers the count over all conditions,
    pub counts : grouping_verdict s grouping ≡ Passes → count_answer s grouping ≡ answered (unmet_count (number_in grouping) (conditions s)) 0 0
    unfolding count_answer
    counts q = rw q

    -- and an answer is that.
    pub counted : (c : ℕ) → count_answer s grouping ≡ answered c 0 0
        → (grouping_verdict s grouping ≡ Passes) × (c ≡ unmet_count (number_in grouping) (conditions s))
    unfolding count_answer
    counted c e = go (grouping_verdict s grouping) refl e
      where
        go : (v : Verdict) → grouping_verdict s grouping ≡ v → answer_of v (answered (unmet_count (number_in grouping) (conditions s)) 0 0) ≡ answered c 0 0
            → (grouping_verdict s grouping ≡ Passes) × (c ≡ unmet_count (number_in grouping) (conditions s))
        go Passes q e = (q, cc)
        go (Refuses check place) q e = let z : ◌≡◌ {A = ℕ} 0 1 = cc in absurd (omega arith)

    -- It answers 0 exactly where the evaluator does,
    pub count-evaluates : count_answer s grouping ≡ answered 0 0 0 ↔ evaluate_answer s grouping ≡ answered 0 0 0
    unfolding count_answer evaluate_answer_with
    count-evaluates = go (grouping_verdict s grouping)
      where
        zero : unmet_count (number_in grouping) (conditions s) ≡ 0 ↔ lowest_unmet (number_in grouping) 1 (conditions s) ≡ 0
        zero = count_zero (number_in grouping) (conditions s)

        value : (x y : ℕ) → answered x 0 0 ≡ answered y 0 0 → x ≡ y
        value x y e = cc

        go : (v : Verdict)
            → (answer_of v (answered (unmet_count (number_in grouping) (conditions s)) 0 0) ≡ answered 0 0 0
            ↔ answer_of v (answered (lowest_unmet (number_in grouping) 1 (conditions s)) 0 0) ≡ answered 0 0 0)
        go Passes = ((λ e. ap (λ (x : ℕ). answered x 0 0) (zero.0 (value _ _ e))), (λ e. ap (λ (x : ℕ). answered x 0 0) (zero.1 (value _ _ e))))
        go (Refuses check place) = ((λ e. e), (λ e. e))

    -- and refuses where, and as, the evaluator does.
    pub refused_alike : (check place : ℕ) → count_answer s grouping ≡ refused check place ↔ evaluate_answer s grouping ≡ refused check place
    unfolding count_answer evaluate_answer_with
    refused_alike check place = go (grouping_verdict s grouping) _ _
      where
        go : (v : Verdict) (x y : ℕ) → (answer_of v (answered x 0 0) ≡ refused check place ↔ answer_of v (answered y 0 0) ≡ refused check place)
        go Passes x y =
            ((λ e. let z : ◌≡◌ {A = ℕ} 0 1 = cc in absurd (omega arith)), (λ e. let z : ◌≡◌ {A = ℕ} 0 1 = cc in absurd (omega arith)))
        go (Refuses c p) x y = ((λ e. e), (λ e. e))
