-- The entry points' answers and buffers, case by case; and from them all that they promise.
use Prim.Native.Nat.{ℕ}
use mathlib.Core.List.{List}
use mathlib.Core.Path.{◌≡◌, refl, sym, ap, subst, ◌∙◌}
use Rattle.sheet.specs.Verdicts.{Verdict, Refuses}
use Rattle.sheet.specs.Format.{lot_count}
use Rattle.sheet.specs.Answers.{Answer}
use Rattle.limit.specs.Meaning.{Limit, unlimited}
use Rattle.store.specs.Records.{capacity}
use Rattle.outcome.specs.Outcome.{Outcome, result_of, search_outcome}
use Rattle.outcome.specs.Limited.{tree_of, verdict_under, outcome_under}
use Rattle.outcome.proofs.Checked.{unlimited-outcome}
use Rattle.std.specs.Prelude.{Err}
use Rattle.sheet.specs.declared.refusal.Refusal.{Refusal}
use Rattle.sheet.specs.Refusals.{check_of, place_of}
use Rattle.sheet.proofs.Refusals.{refusal_at-numbers}
use Rattle.search.specs.Answers.{Searched, search_answer}
use Rattle.search.specs.Promises.{search_case, RefusedExactly, FullExactly, FullPlace, FullCase, MetExactly, MetGrouping, MetZero, CannotExactly, CannotWhichever, CannotAny, CannotRefutes, CountBounded}
use Rattle.search.specs.Limited.{case_under, RefusedExactlyUnder, FullExactlyUnder, FullCaseUnder, MetExactlyUnder, MetGroupingUnder, MetZeroUnder, CannotExactlyUnder, CannotWhicheverUnder, CannotRefutesUnder}
use Rattle.search.specs.Ends.{EndsAs}
use Rattle.search.proofs.Promised.{refused-exactly, full_exactly, full_place, full_told, met-exactly, met-grouping, met_zero, cannot_exactly, cannot_whichever, cannot_any, cannot_refutes, count_bounded}
use Rattle.search.proofs.Without.{unlimited_case, refused_plain, full_plain, full_case_plain, met_plain, grouping_plain, zero_plain, cannot_plain, whichever_plain, any_plain, refutes_plain}

module _ (limit : Limit) (s lent space : List ℕ) where
  -- The case and the buffers of a search whose checks before it come to this verdict.
  abbrev pub EndsBy : Verdict → List ℕ → List ℕ → Searched → Type 0
  EndsBy v grouping' store' r = EndsAs (lot_count s) (result_of v (capacity space) (tree_of limit s)) lent grouping' space store' r

  -- A refusal writes nothing.
  pub refused-ends : (r : Refusal) → EndsBy (Refuses (check_of r) (place_of r)) lent space (Err r)
  unfolding result_of
  refused-ends r = record { answered = ap Err (sym (refusal_at-numbers r)); numbered = refl; grouped = refl; stored = refl }

  -- All that both searches ensure.
  abbrev pub EnsuredUnder : List ℕ → List ℕ → Searched → Type 0
  EnsuredUnder grouping' store' r =
      record {
        case : r ≡ case_under limit s lent space;
        answer : search_answer r ≡ (outcome_under limit s lent space).answer;
        grouping : grouping' ≡ (outcome_under limit s lent space).grouping;
        store : store' ≡ (outcome_under limit s lent space).store;
        refused : RefusedExactlyUnder limit (search_answer r) s lent space;
        full : FullExactlyUnder limit (search_answer r) s lent space;
        capacity : FullPlace (search_answer r) space;
        filled : FullCaseUnder limit r s lent space;
        met : MetExactlyUnder limit (search_answer r) s;
        meets : MetGroupingUnder limit (search_answer r) s grouping';
        zero : MetZeroUnder limit (search_answer r) s grouping';
        cannot : CannotExactlyUnder limit (search_answer r) s;
        whichever : CannotWhicheverUnder limit (search_answer r) s;
        refutes : CannotRefutesUnder limit (search_answer r) s store';
      }

  pub ensured_under : {v : Verdict} → verdict_under limit s lent ≡ v → (grouping' store' : List ℕ) (r : Searched) → EndsBy v grouping' store' r → EnsuredUnder grouping' store' r
  unfolding case_under outcome_under
  ensured_under {v} verdict grouping' store' r ends = by (subst (λ (w : Verdict). EndsBy w grouping' store' r) (sym verdict) ends)
    where
      by : EndsBy (verdict_under limit s lent) grouping' store' r → EnsuredUnder grouping' store' r
      by e =
          let told = e.numbered in
          let a = search_answer r in
          record {
            case = e.answered;
            answer = told;
            grouping = e.grouped;
            store = e.stored;
            refused = refused-exactly limit s lent space a told;
            full = full_exactly limit s lent space a told;
            capacity = full_place limit s lent space a told;
            filled = full_told limit s lent space a told r e.answered refl;
            met = met-exactly limit s lent space a told;
            meets = met-grouping limit s lent space a told grouping' e.grouped;
            zero = met_zero limit s lent space a told grouping' e.grouped;
            cannot = cannot_exactly limit s lent space a told;
            whichever = cannot_whichever limit s lent space a told;
            refutes = cannot_refutes limit s lent space a told store' e.stored;
          }

-- All that the entry point without a limit ensures.
module _ (s lent space : List ℕ) where
  -- Where it answers that the sheet cannot be met, no values of any type whose equality is decidable meet it. (A contract's clause cannot speak of all types:
  -- this is a theorem only.)
  pub search_any : (a : Answer) → a ≡ (search_outcome s lent space).answer → CannotAny a s
  search_any a told =
      any_plain s a (cannot_any unlimited s lent space a (told ∙ sym (ap (λ (o : Outcome). o.answer) (unlimited-outcome s lent space))))

  abbrev pub Ensured : List ℕ → List ℕ → Searched → Type 0
  Ensured grouping' store' r =
      record {
        case : r ≡ search_case s lent space;
        answer : search_answer r ≡ (search_outcome s lent space).answer;
        grouping : grouping' ≡ (search_outcome s lent space).grouping;
        store : store' ≡ (search_outcome s lent space).store;
        refused : RefusedExactly (search_answer r) s lent space;
        full : FullExactly (search_answer r) s lent space;
        capacity : FullPlace (search_answer r) space;
        filled : FullCase r s lent space;
        met : MetExactly (search_answer r) s;
        meets : MetGrouping (search_answer r) s grouping';
        zero : MetZero (search_answer r) s grouping';
        cannot : CannotExactly (search_answer r) s;
        whichever : CannotWhichever (search_answer r) s;
        refutes : CannotRefutes (search_answer r) s store';
        count : CountBounded (search_answer r) s;
      }

  pub ensured : {v : Verdict} → verdict_under unlimited s lent ≡ v → (grouping' store' : List ℕ) (r : Searched)
      → EndsBy unlimited s lent space v grouping' store' r → Ensured grouping' store' r
  ensured verdict grouping' store' r ends =
      let all = ensured_under unlimited s lent space verdict grouping' store' r ends in
      let a = search_answer r in
      let same_outcome = unlimited-outcome s lent space in
      record {
        case = all.case ∙ unlimited_case s lent space;
        answer = all.answer ∙ ap (λ (o : Outcome). o.answer) same_outcome;
        grouping = all.grouping ∙ ap (λ (o : Outcome). o.grouping) same_outcome;
        store = all.store ∙ ap (λ (o : Outcome). o.store) same_outcome;
        refused = refused_plain s lent space a all.refused;
        full = full_plain s lent space a all.full;
        capacity = all.capacity;
        filled = full_case_plain s lent space r all.filled;
        met = met_plain s a all.met;
        meets = grouping_plain s a grouping' all.meets;
        zero = zero_plain s a grouping' all.zero;
        cannot = cannot_plain s a all.cannot;
        whichever = whichever_plain s a all.whichever;
        refutes = refutes_plain s a store' all.refutes;
        count = count_bounded s lent space a all.answer;
      }
