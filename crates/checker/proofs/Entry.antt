-- The entry points' answers, case by case, and what they mean (theorem 6).
use Prim.Native.Nat.{ℕ, ◌/◌, ◌%◌, ◌≤◌}
use mathlib.Core.Bool.{Bool, true, false, not, ◌||◌}
use mathlib.Core.List.{List, [], ◌∷◌, ◌++◌}
use mathlib.Core.Path.{◌≡◌, refl, sym, ap, ◌∙◌}
use native.Mathlib.Decide.{ℕ_discrete}
use native.Mathlib.Omega.{arith}
use borrow.Author.Tests.{ltb-false}
use lib.Dec.{eqb, ltb}
use lib.ListN.{length}
use Rattle.sheet.specs.Format.{lowest_lot}
use Rattle.sheet.specs.Verdicts.{Verdict, Passes, Refuses}
use Rattle.sheet.specs.Checks.{Accepted, or_else, refuses_if, first_refusal, sheet_verdict}
use Rattle.sheet.specs.Answers.{refused, answered, answer_of}
use Rattle.sheet.proofs.Further.{further, further_accepted}
use Rattle.sheet.proofs.Verdicts.{or_else_end}
use Rattle.equality.proofs.Tests.{either_false}
use Rattle.limit.specs.Meaning.{Limit, unlimited, up_to, ill_limited, check20, limit_checks, Admitted}
use Rattle.store.specs.Records.{record_length, most_nodes}
use Rattle.refutation.specs.Refutation.{check10, walk_verdict, list_verdict_under, check_answer_under, list_verdict, check_answer}
use Rattle.refutation.proofs.Sound.{refutation_sound_under}
use Rattle.refutation.proofs.Smaller.{admitted_first}
use Rattle.std.specs.Prelude.{Result, Ok, Err}
use Rattle.sheet.specs.declared.refusal.Refusal.{Refusal}
use Rattle.sheet.specs.Refusals.{check_of, place_of, verdict_of}
use Rattle.checker.specs.Answers.{checked_answer, PassedExactly, PassedMeans, PassedExactlyUnder, PassedMeansUnder}

-- ---- the tests before the walk

-- Of check 10.
abbrev pub ill_sized : List ℕ → Bool
ill_sized list = eqb (length list) 0 || not (eqb (length list % record_length) 0) || ltb most_nodes (length list / record_length)

-- A list that isn't ill-sized is not too long.
pub few-records : (list : List ℕ) → ill_sized list ≡ false → length list / record_length ≤ most_nodes
few-records list e =
    ltb-false most_nodes (length list / record_length)
    (either_false (eqb (length list) 0 || not (eqb (length list % record_length) 0)) (ltb most_nodes (length list / record_length)) e).1

-- ---- the verdict

-- A limit that is refused;
pub limit-refused : (g : ℕ) (s list : List ℕ) → Accepted s → ill_limited g ≡ true → list_verdict_under (up_to g) lowest_lot s list ≡ Refuses 20 g
unfolding list_verdict_under first_refusal check20
limit-refused g s list ok e =
    let rest : List Verdict = check10 list ∷ walk_verdict (up_to g) lowest_lot s list ∷ [] in
    further_accepted s (check20 g ∷ rest) ok ∙ ap (λ (p : Bool). or_else (refuses_if p 20 g) (first_refusal rest)) e

module _ (limit : Limit) (s list : List ℕ) where
  abbrev walked : Verdict
  walked = walk_verdict limit lowest_lot s list

  -- a sheet that is refused,
  pub sheet-refused : (check place : ℕ) → sheet_verdict s ≡ Refuses check place → list_verdict_under limit lowest_lot s list ≡ Refuses check place
  unfolding list_verdict_under
  sheet-refused check place e =
      let rest : List Verdict = limit_checks limit ++ (check10 list ∷ walked ∷ []) in
      further s rest ∙ ap (λ (v : Verdict). or_else v (first_refusal rest)) e

  module _ (ok : Accepted s) (admitted : Admitted limit) where
    length-first : list_verdict_under limit lowest_lot s list ≡ or_else (check10 list) (or_else walked Passes)
    unfolding list_verdict_under first_refusal
    length-first =
        let rest : List Verdict = check10 list ∷ walked ∷ [] in
        further_accepted s (limit_checks limit ++ rest) ok ∙ admitted_first limit (unfold first_refusal in admitted) rest

    -- a list of a length that none has,
    pub size-refused : ill_sized list ≡ true → list_verdict_under limit lowest_lot s list ≡ Refuses 10 0
    unfolding check10
    size-refused e = length-first ∙ ap (λ (p : Bool). or_else (refuses_if p 10 0) (or_else walked Passes)) e

    -- or the walk decides.
    pub walk_decides : ill_sized list ≡ false → list_verdict_under limit lowest_lot s list ≡ walked
    unfolding check10
    walk_decides e = length-first ∙ ap (λ (p : Bool). or_else (refuses_if p 10 0) (or_else walked Passes)) e ∙ or_else_end walked

  -- ---- what is ensured

  abbrev pub Ensured : Result (Unit {0}) Refusal → Type 0
  Ensured r =
      record {
        answer : checked_answer r ≡ check_answer_under limit lowest_lot s list;
        passed : PassedExactlyUnder limit r s list;
        meaning : PassedMeansUnder limit r s;
      }

  pub ensured : (r : Result (Unit {0}) Refusal) → list_verdict_under limit lowest_lot s list ≡ verdict_of r → Ensured r
  unfolding check_answer_under
  ensured (Ok passed) e =
      record {
        answer = sym (ap (λ (w : Verdict). answer_of w (answered 0 0 0)) e);
        passed = ((λ _. e), (λ _. refl));
        meaning = λ _ f keeps. refutation_sound_under limit s list e ℕ_discrete f keeps;
      }
  ensured (Err r) e =
      record {
        answer = sym (ap (λ (w : Verdict). answer_of w (answered 0 0 0)) e);
        passed = ((λ passed. absurd (never passed)), (λ passes. let z : ◌≡◌ {A = ℕ} 0 1 = cc in absurd (omega arith)));
        meaning = λ passed. absurd (never passed);
      }
    where
      never : refused (check_of r) (place_of r) ≡ answered 0 0 0 → ⊥
      never q = let z : ◌≡◌ {A = ℕ} 0 1 = cc in omega arith

-- Without a limit every assignment keeps it.
module _ (s list : List ℕ) where
  abbrev pub EnsuredUnlimited : Result (Unit {0}) Refusal → Type 0
  EnsuredUnlimited r =
      record {
        answer : checked_answer r ≡ check_answer s list;
        passed : PassedExactly r s list;
        meaning : PassedMeans r s;
      }

  pub ensured_unlimited : (r : Result (Unit {0}) Refusal) → list_verdict s list ≡ verdict_of r → EnsuredUnlimited r
  ensured_unlimited r e = let h = ensured unlimited s list r e in record { answer = h.answer; passed = h.passed; meaning = λ passed f. h.meaning passed f tt }
