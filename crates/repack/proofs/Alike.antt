-- Sheets that say the same are answered alike, have as many records that aren't vacant, and the same conditions withdrawn. Nothing here asks how the records
-- stand, or what a condition with no term counts for.
use Prim.Native.Nat.{ℕ, suc, ◌-◌, ◌≤◌}
use mathlib.Core.List.{List, [], ◌∷◌, ◌++◌, flatten}
use mathlib.Core.Logic.{◌↔◌}
use mathlib.Core.Path.{◌≡◌, refl, sym, ap, fun_ext, ◌∙◌}
use native.Mathlib.Omega.{arith}
use lib.ListN.{length, get_or}
use Rattle.sheet.specs.Verdicts.{Verdict}
use Rattle.sheet.specs.Format.{lowest_lot, condition_count, record_count, head_at, filled_count}
use Rattle.sheet.specs.Checks.{first_refusal, sheet_checks}
use Rattle.sheet.specs.Conditions.{Term, condition_at}
use Rattle.sheet.specs.Answers.{with_third, read_answer, read_answer_with}
use Rattle.sheet.proofs.Further.{further_accepted}
use Rattle.sheet.proofs.Conditions.{conditions-length, conditions_at, terms-count, withdrawn-empty, empty-withdrawn}
use Rattle.equality.specs.Evaluator.{check8, grouping_verdict, grouping_verdict_with, evaluate_answer, evaluate_answer_with}
use Rattle.reassignment.specs.Count.{count_answer}
use Rattle.reassignment.specs.Reassign.{check21, check22, reassign_verdict, reassign_answer, reassign_grouping}
use Rattle.store.specs.Records.{NodeRecord, split_record, ground_record, met_record, clique_record, no_record, records_of}
use Rattle.limit.specs.Meaning.{Limit, unlimited, limit_checks}
use Rattle.refutation.specs.Refutation.{Split, walk_record, walk_from, check10, walk_verdict, list_verdict_under, check_answer_under}
use Rattle.outcome.specs.Outcome.{search_outcome}
use Rattle.outcome.specs.Limited.{verdict_under, outcome_under}
use Rattle.outcome.proofs.Checked.{unlimited-outcome}
use Rattle.repack.specs.Promises.{Alike, ServedAlike}

module _ (s t : List ℕ) (alike : Alike s t) where
  -- They have as many conditions.
  alike_conditions : condition_count s ≡ condition_count t
  alike_conditions = sym (conditions-length s) ∙ ap length alike.lists ∙ conditions-length t

  -- Each is the same,
  alike_condition : (c : ℕ) → 1 ≤ c → c ≤ condition_count s → condition_at s c ≡ condition_at t c
  alike_condition c low high =
      let number : suc (c - 1) ≡ c = omega arith in
      ap (condition_at s) (sym number)
      ∙ sym (conditions_at s (c - 1) (omega arith))
      ∙ ap (λ (tss : List (List Term)). get_or tss (c - 1) []) alike.lists
      ∙ conditions_at t (c - 1) (omega (arith, alike_conditions))
      ∙ ap (condition_at t) number

  -- so the same ones are withdrawn: "equal lists with the struck places equal too" (document 02).
  pub alike_withdrawn : (c : ℕ) → 1 ≤ c → c ≤ condition_count s → (head_at s c ≡ 0 ↔ head_at t c ≡ 0)
  alike_withdrawn c low high =
      let same = alike_condition c low high in (
        (λ e. empty-withdrawn t alike.second c low (omega (arith, alike_conditions)) (sym same ∙ withdrawn-empty s c e)),
        (λ e. empty-withdrawn s alike.first c low high (same ∙ withdrawn-empty t c e)),
      )

  -- Further checks decide, where these say the same of both.
  alike_further : (vs ws : List Verdict) → first_refusal vs ≡ first_refusal ws → first_refusal (sheet_checks s ++ vs) ≡ first_refusal (sheet_checks t ++ ws)
  alike_further vs ws e = further_accepted s vs alike.first ∙ e ∙ sym (further_accepted t ws alike.second)

  alike_read : read_answer s ≡ with_third (record_count s) (read_answer t)
  unfolding read_answer_with
  alike_read = rw (alike.first, alike.second, alike.lots, alike_conditions)

  alike_filled : filled_count s ≡ filled_count t
  alike_filled = sym (terms-count s alike.first) ∙ ap (λ (tss : List (List Term)). length (flatten tss)) alike.lists ∙ terms-count t alike.second

  -- ---- evaluator, count, reassignment and search

  alike_grouping : (grouping : List ℕ) → grouping_verdict s grouping ≡ grouping_verdict t grouping
  unfolding grouping_verdict_with check8
  alike_grouping grouping = alike_further (check8 s grouping ∷ []) (check8 t grouping ∷ []) (rw alike.lots)

  alike_evaluate : (grouping : List ℕ) → evaluate_answer s grouping ≡ evaluate_answer t grouping
  unfolding evaluate_answer_with
  alike_evaluate grouping = rw (alike_grouping grouping, alike.lists)

  alike_count : (grouping : List ℕ) → count_answer s grouping ≡ count_answer t grouping
  unfolding count_answer
  alike_count grouping = rw (alike_grouping grouping, alike.lists)

  -- The answer and the grouping afterwards.
  alike_reassign : (grouping : List ℕ) (count lot value : ℕ)
      → (reassign_answer s grouping count lot value ≡ reassign_answer t grouping count lot value)
      × (reassign_grouping s grouping count lot value ≡ reassign_grouping t grouping count lot value)
  unfolding reassign_answer reassign_grouping reassign_verdict check8 check21 check22
  alike_reassign grouping count lot value =
      let verdict = alike_further (check8 s grouping ∷ check21 s lot ∷ check22 s grouping count lot ∷ []) (check8 t grouping ∷ check21 t lot ∷ check22 t grouping count lot ∷ [])
      (rw (alike.lots, alike_conditions, alike.lists)) in
      (rw (verdict, alike.lists), rw verdict)

  alike_verdict : (limit : Limit) (grouping : List ℕ) → verdict_under limit s grouping ≡ verdict_under limit t grouping
  unfolding verdict_under check8
  alike_verdict limit grouping =
      alike_further (limit_checks limit ++ check8 s grouping ∷ []) (limit_checks limit ++ check8 t grouping ∷ []) (rw alike.lots)

  -- The answer and both buffers, with a limit or without one.
  alike_under : (limit : Limit) (grouping store : List ℕ) → outcome_under limit s grouping store ≡ outcome_under limit t grouping store
  unfolding outcome_under
  alike_under limit grouping store = rw (alike_verdict limit grouping, alike.lots, alike.lists)

  alike_search : (grouping store : List ℕ) → search_outcome s grouping store ≡ search_outcome t grouping store
  alike_search grouping store = sym (unlimited-outcome s grouping store) ∙ alike_under unlimited grouping store ∙ unlimited-outcome t grouping store

  -- ---- refutation checker

  alike_walk : (limit : Limit) (list : List NodeRecord) → walk_from limit lowest_lot s list ≡ walk_from limit lowest_lot t list
  unfolding walk_from
  alike_walk limit [] = refl
  alike_walk limit (r ∷ rest) = fun_ext (λ (at : ℕ). fun_ext (λ (above : List Split). go r at above (alike_walk limit rest)))
    where
      go : (r : NodeRecord) (at : ℕ) (above : List Split) {walk other : ℕ → List Split → Verdict} → walk ≡ other
          → walk_record limit lowest_lot s walk rest at above r ≡ walk_record limit lowest_lot t other rest at above r
      go (split_record a b next) at above e = rw (alike.lots, e)
      go (ground_record c) at above e = rw (alike_conditions, alike.lists, e)
      go met_record at above e = refl
      go clique_record at above e = rw (alike.lots, e)
      go no_record at above e = refl

  alike_check : (limit : Limit) (list : List ℕ) → check_answer_under limit lowest_lot s list ≡ check_answer_under limit lowest_lot t list
  unfolding check_answer_under list_verdict_under walk_verdict
  alike_check limit list =
      rw (alike_further (limit_checks limit ++ check10 list ∷ walk_verdict limit lowest_lot s list ∷ []) (limit_checks limit ++ check10 list ∷ walk_verdict limit lowest_lot t list ∷ [])
      (ap (λ (w : ℕ → List Split → Verdict). first_refusal (limit_checks limit ++ check10 list ∷ w 1 [] ∷ [])) (alike_walk limit (records_of list))))

  -- ---- all of them

  pub served_alike : ServedAlike s t
  served_alike =
      record {
        reads = alike_read;
        filled = alike_filled;
        searches = alike_search;
        checks = alike_check unlimited;
        searches_under = alike_under;
        checks_under = alike_check;
        evaluates = alike_evaluate;
        counts = alike_count;
        reassigns = alike_reassign;
      }
