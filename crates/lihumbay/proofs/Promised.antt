-- What the services promise of their answers, carried over to the answers' numbers.
use Prim.Native.Nat.{ℕ, ◌*◌, ◌≤◌}
use mathlib.Core.List.{List}
use mathlib.Core.Logic.{◌↔◌}
use mathlib.Core.Path.{◌≡◌, refl, sym, ap, ◌∙◌}
use native.Mathlib.Omega.{arith}
use lib.ListN.{take}
use Rattle.sheet.specs.Verdicts.{Verdict, Passes, Refuses}
use Rattle.std.specs.Prelude.{Result, Ok, Err}
use Rattle.sheet.specs.declared.Header.{Header}
use Rattle.sheet.specs.declared.refusal.Refusal.{Refusal}
use Rattle.sheet.specs.Refusals.{check_of, place_of}
use Rattle.sheet.specs.Format.{lowest_lot, lot_count}
use Rattle.sheet.specs.Conditions.{conditions}
use Rattle.sheet.specs.Answers.{Answer, refused, answered, answer_of, read_answer, reading_answer}
use Rattle.sheet.proofs.Verdicts.{not-both}
use Rattle.sheet.proofs.Readings.{read_accepts, read_refuses}
use Rattle.sheet.proofs.Numbered.{refusal_number, sheet_numbered}
use Rattle.equality.specs.Evaluator.{grouping_verdict, GroupingMeets, number_in, lowest_unmet, evaluate_answer, evaluate_answer_with}
use Rattle.equality.proofs.Checked.{grouping_numbered}
use Rattle.evaluator.specs.Answers.{Evaluated}
use Rattle.reassignment.specs.Count.{unmet_count, count_answer}
use Rattle.reassignment.specs.Reassign.{reassign_verdict, new_count, reassign_answer}
use Rattle.reassignment.specs.Moves.{count_after, Counted}
use Rattle.reassignment.proofs.Checking.{reassign_numbered}
use Rattle.counter.specs.Answers.{CountMeans}
use Rattle.reassign.specs.Promises.{StaysCounted, RightGoesThrough}
use Rattle.store.specs.Records.{record_length, capacity}
use Rattle.equality.specs.Meaning.{Meets, CanBeMet, CannotBeMet}
use Rattle.limit.specs.Meaning.{Limit, unlimited, Keeps, CanBeMetUnder, CannotBeMetUnder}
use Rattle.outcome.specs.Outcome.{ZeroGroup}
use Rattle.outcome.specs.Limited.{GroupingMeetsUnder, ZeroGroupUnder}
use Rattle.search.specs.Limited.{FullExactlyUnder, MetExactlyUnder, MetGroupingUnder, MetZeroUnder, CannotExactlyUnder, CannotWhicheverUnder, CannotRefutesUnder}
use Rattle.search.specs.Promises.{FullExactly, FullPlace, MetExactly, MetGrouping, MetZero, CannotExactly, CannotWhichever, CannotRefutes, CountBounded}
use Rattle.search.proofs.Promised.{answer_passing}
use Rattle.refutation.specs.Refutation.{Refutes, RefutesUnder, list_verdict_under, check_answer_under}
use Rattle.lihumbay.proofs.Numbered.{list_numbered}
use Rattle.checker.specs.Answers.{checked_answer, PassedExactlyUnder}
use Rattle.writer.specs.Answers.{OfWritten}
use Rattle.repack.specs.Repack.{repacked_length, repack_verdict, repack_answer, repack_answer_with}
use Rattle.repack.proofs.Answering.{repack_numbered}
use Rattle.repeats.specs.Repeats.{has_terms}
use Rattle.merge.specs.Merge.{merged_length, merge_verdict, merge_answer, merge_answer_with}
use Rattle.merge.proofs.Answering.{merge_numbered}
use Rattle.numbers.specs.Answers.{numbers_of, merge_numbers}
use Rattle.lihumbay.specs.Promises.{ZeroExactly, NineExactly, OneExactly, OneMeets, OneZero, TwoExactly, TwoWhichever, TwoRefutes, NodesBounded, FirstUnmet, UnmetCounted, ZeroCounted, RightAccepted, NineExactlyUnder, OneExactlyUnder, OneMeetsUnder, OneZeroUnder, TwoExactlyUnder, TwoWhicheverUnder, TwoRefutesUnder, ZeroPassedUnder, ZeroWritten}

-- The refusal of an answer is its verdict's.
answer_refuses : (v : Verdict) (first second third : ℕ) {check place : ℕ} → refused check place ≡ answer_of v (answered first second third) → v ≡ Refuses check place
answer_refuses Passes first second third e = let z : ◌≡◌ {A = ℕ} 0 1 = cc in absurd (omega arith)
answer_refuses (Refuses c p) first second third {check = check} {place = place} e =
    let same : c ≡ check = cc in
    let at : p ≡ place = cc in
    λ i. Refuses (same i) (at i)

-- ---- the reader

-- A sheet that is refused is not accepted, and the check is not 0.
pub zero_exactly : (s : List ℕ) (a : Result Header Refusal) → reading_answer a ≡ read_answer s → ZeroExactly (numbers_of (reading_answer a)) s
zero_exactly s (Ok h) answer = ((λ z. (read_accepts s h.lots h.conditions h.records answer).accepted), (λ ok. refl))
zero_exactly s (Err r) answer =
    let refuses = read_refuses s (check_of r) (place_of r) answer in (
      (λ z. absurd (omega (arith, z, (refusal_number (sheet_numbered s) refuses).0))),
      (λ ok. absurd (not-both ok refuses)),
    )

-- ---- the search

-- A refusal's number is not 0.
abbrev First : Answer → Type 0
First a = (check place : ℕ) → a ≡ refused check place → 1 ≤ check

-- What is promised of an answer with values is promised of the numbers of one that is no refusal.
carry : (P : Answer → Type 0) (Q : ℕ → ℕ → Type 0) → ((first second third : ℕ) → P (answered first second third) → Q first second)
    → (a : Answer) → First a → P a → (numbers_of a).check ≡ 0 → Q (numbers_of a).first (numbers_of a).second
carry P Q holds (refused check place) number p = λ z. absurd (omega (arith, z, number check place refl))
carry P Q holds (answered first second third) number p = λ z. holds first second third p

-- A full store is 9.
nine_by : {Full : Type 0} (store : List ℕ) (a : Answer) → (a ≡ refused 9 (capacity store) ↔ Full) → FullPlace a store → ((numbers_of a).check ≡ 9 ↔ Full)
nine_by store (refused check place) full at = ((λ e. full.0 (named e ∙ ap (refused 9) (at place (named e)))), (λ h. let q = full.1 h in cc))
  where
    named : check ≡ 9 → refused check place ≡ refused 9 place
    named e = ap (λ (c : ℕ). refused c place) e
nine_by store (answered first second third) full at = ((λ e. absurd (omega (arith, e))), (λ h. let q = full.1 h in let z : ◌≡◌ {A = ℕ} 0 1 = cc in absurd (omega arith)))

module _ (s : List ℕ) where
  pub nine : (grouping store : List ℕ) (a : Answer) → FullExactly a s grouping store → FullPlace a store → NineExactly (numbers_of a) s grouping store
  nine grouping store a full at = nine_by store a full at

  pub one : (a : Answer) → First a → MetExactly a s → OneExactly (numbers_of a) s
  one a = carry (λ o. MetExactly o s) (λ first second. first ≡ 1 ↔ CanBeMet s) (λ f n t p. p) a

  pub one-meets : (grouping' : List ℕ) (a : Answer) → First a → MetGrouping a s grouping' → OneMeets (numbers_of a) s grouping'
  one-meets grouping' a = carry (λ o. MetGrouping o s grouping') (λ first second. first ≡ 1 → GroupingMeets grouping' s) (λ f n t p. p) a

  pub one_zero : (grouping' : List ℕ) (a : Answer) → First a → MetZero a s grouping' → OneZero (numbers_of a) s grouping'
  one_zero grouping' a = carry (λ o. MetZero o s grouping') (λ first second. first ≡ 1 → ZeroGroup s grouping') (λ f n t p. p) a

  pub two : (a : Answer) → First a → CannotExactly a s → TwoExactly (numbers_of a) s
  two a = carry (λ o. CannotExactly o s) (λ first second. first ≡ 2 ↔ CannotBeMet s) (λ f n t p. p) a

  pub two_whichever : (a : Answer) → First a → CannotWhichever a s → TwoWhichever (numbers_of a) s
  two_whichever a = carry (λ o. CannotWhichever o s) (λ first second. first ≡ 2 → (f : ℕ → ℕ) → ¬ Meets f s) (λ f n t p. p) a

  pub two_refutes : (store' : List ℕ) (a : Answer) → First a → CannotRefutes a s store' → TwoRefutes (numbers_of a) s store'
  two_refutes store' a =
      carry (λ o. CannotRefutes o s store') (λ first second. first ≡ 2 → Refutes s (take (record_length * second) store'))
      (λ f n t p e. answer_passing unlimited s (take (record_length * n) store') (p e)) a

  pub bounded : (a : Answer) → First a → CountBounded a s → NodesBounded (numbers_of a) s
  bounded (refused check place) number bound = ((λ z. absurd (omega (arith, z, number check place refl))), bound)
  bounded (answered first second third) number bound = ((λ z. bound), (λ e. absurd (omega (arith, e))))

-- ---- the search under a limit

module _ (limit : Limit) (s : List ℕ) where
  pub nine_under : (grouping store : List ℕ) (a : Answer) → FullExactlyUnder limit a s grouping store → FullPlace a store → NineExactlyUnder limit (numbers_of a) s grouping store
  nine_under grouping store a full at = nine_by store a full at

  pub one_under : (a : Answer) → First a → MetExactlyUnder limit a s → OneExactlyUnder limit (numbers_of a) s
  one_under a = carry (λ o. MetExactlyUnder limit o s) (λ first second. first ≡ 1 ↔ CanBeMetUnder limit s) (λ f n t p. p) a

  pub one_meets_under : (grouping' : List ℕ) (a : Answer) → First a → MetGroupingUnder limit a s grouping' → OneMeetsUnder limit (numbers_of a) s grouping'
  one_meets_under grouping' a = carry (λ o. MetGroupingUnder limit o s grouping') (λ first second. first ≡ 1 → GroupingMeetsUnder limit grouping' s) (λ f n t p. p) a

  pub one_zero_under : (grouping' : List ℕ) (a : Answer) → First a → MetZeroUnder limit a s grouping' → OneZeroUnder limit (numbers_of a) s grouping'
  one_zero_under grouping' a = carry (λ o. MetZeroUnder limit o s grouping') (λ first second. first ≡ 1 → ZeroGroupUnder limit s grouping') (λ f n t p. p) a

  pub two_under : (a : Answer) → First a → CannotExactlyUnder limit a s → TwoExactlyUnder limit (numbers_of a) s
  two_under a = carry (λ o. CannotExactlyUnder limit o s) (λ first second. first ≡ 2 ↔ CannotBeMetUnder limit s) (λ f n t p. p) a

  pub two_whichever_under : (a : Answer) → First a → CannotWhicheverUnder limit a s → TwoWhicheverUnder limit (numbers_of a) s
  two_whichever_under a =
      carry (λ o. CannotWhicheverUnder limit o s) (λ first second. first ≡ 2 → (f : ℕ → ℕ) → Keeps limit (lot_count s) f → ¬ Meets f s) (λ f n t p. p) a

  pub two_refutes_under : (store' : List ℕ) (a : Answer) → First a → CannotRefutesUnder limit a s store' → TwoRefutesUnder limit (numbers_of a) s store'
  two_refutes_under store' a =
      carry (λ o. CannotRefutesUnder limit o s store') (λ first second. first ≡ 2 → RefutesUnder limit s (take (record_length * second) store'))
      (λ f n t p e. answer_passing limit s (take (record_length * n) store') (p e)) a

-- ---- the evaluator

pub first_unmet : (s grouping : List ℕ) (a : Answer) → a ≡ evaluate_answer s grouping → Evaluated a s grouping → FirstUnmet (numbers_of a) s grouping
unfolding evaluate_answer_with
first_unmet s grouping (answered first second third) answer means = λ z. means
first_unmet s grouping (refused check place) answer means =
    λ z. absurd (omega (arith, z, (refusal_number (grouping_numbered s grouping) (answer_refuses (grouping_verdict s grouping) (lowest_unmet (number_in grouping) 1 (conditions s)) 0 0 answer)).0))

-- ---- count and reassignment

pub unmet_counted : (s grouping : List ℕ) (a : Answer) → a ≡ count_answer s grouping → CountMeans a s grouping → UnmetCounted (numbers_of a) s grouping
unfolding count_answer
unmet_counted s grouping (answered first second third) answer means = λ z. means
unmet_counted s grouping (refused check place) answer means =
    λ z. absurd (omega (arith, z, (refusal_number (grouping_numbered s grouping) (answer_refuses (grouping_verdict s grouping) (unmet_count (number_in grouping) (conditions s)) 0 0 answer)).0))

module _ (s grouping : List ℕ) (count lot value : ℕ) where
  reassign_first : (a : Answer) → a ≡ reassign_answer s grouping count lot value → First a
  unfolding reassign_answer
  reassign_first a answer check place e =
      (refusal_number (reassign_numbered s grouping count lot) (answer_refuses (reassign_verdict s grouping count lot) (new_count s grouping count lot value) 0 0 (sym e ∙ answer))).0

  pub zero_counted : (grouping' : List ℕ) (a : Answer) → a ≡ reassign_answer s grouping count lot value → StaysCounted a s grouping count grouping'
      → ZeroCounted (numbers_of a) s grouping count grouping'
  zero_counted grouping' a answer stays right =
      carry (λ o. Counted s (record { grouping = grouping'; count = count_after o count })) (λ first second. Counted s (record { grouping = grouping'; count = first })) (λ f n t p. p) a
      (reassign_first a answer) (stays right)

  pub right_accepted : (grouping' : List ℕ) (a : Answer) → StaysCounted a s grouping count grouping' → RightGoesThrough a s grouping count lot value grouping'
      → RightAccepted (numbers_of a) s grouping count lot
  right_accepted grouping' a stays goes right low high = ap (λ (o : Answer). (numbers_of o).check) ((goes right low high).1 ∙ stays right)

-- ---- the checker

-- A refusal is no answer.
no_answer : (check place : ℕ) → refused check place ≡ answered 0 0 0 → ⊥
no_answer check place e = let z : ◌≡◌ {A = ℕ} 0 1 = cc in omega arith

module _ (limit : Limit) (s list : List ℕ) where
  -- A refusal's number is not 0.
  list_first : (check place : ℕ) → refused check place ≡ check_answer_under limit lowest_lot s list → 1 ≤ check
  unfolding check_answer_under
  list_first check place e = (refusal_number (list_numbered limit s list) (answer_refuses (list_verdict_under limit lowest_lot s list) 0 0 0 e)).0

  pub zero_passed : (a : Result (Unit {0}) Refusal) → checked_answer a ≡ check_answer_under limit lowest_lot s list → PassedExactlyUnder limit a s list
      → ZeroPassedUnder limit (numbers_of (checked_answer a)) s list
  zero_passed (Ok passed) answer exactly = ((λ z. exactly.0 refl), (λ passes. refl))
  zero_passed (Err r) answer exactly =
      ((λ z. absurd (omega (arith, z, list_first (check_of r) (place_of r) answer))), (λ passes. absurd (no_answer (check_of r) (place_of r) (exactly.1 passes))))

  pub zero_means : (Means : Type 0) (a : Result (Unit {0}) Refusal) → checked_answer a ≡ check_answer_under limit lowest_lot s list → (checked_answer a ≡ answered 0 0 0 → Means)
      → (numbers_of (checked_answer a)).check ≡ 0 → Means
  zero_means Means (Ok passed) answer means = λ z. means refl
  zero_means Means (Err r) answer means = λ z. absurd (omega (arith, z, list_first (check_of r) (place_of r) answer))

-- ---- writers of sheets

pub zero_written : (P : List ℕ → Type 0) (out' : List ℕ) (a : Answer) → First a → OfWritten P a out' → ZeroWritten P (numbers_of a) out'
zero_written P out' (refused check place) number holds = λ z. absurd (omega (arith, z, number check place refl))
zero_written P out' (answered first second third) number holds = λ z. holds

pub repack_first : (s out : List ℕ) (a : Answer) → a ≡ repack_answer s out → First a
unfolding repack_answer_with
repack_first s out a answer check place e = (refusal_number (repack_numbered s out) (answer_refuses (repack_verdict s out) (repacked_length s) 0 0 (sym e ∙ answer))).0

-- The sheet behind the place changes nothing of that.
pub zero_merged : (P : List ℕ → Type 0) (out' : List ℕ) (a : Answer) (sheet : ℕ) → First a → OfWritten P a out' → ZeroWritten P (merge_numbers a sheet) out'
zero_merged P out' (refused check place) sheet number holds = λ z. absurd (omega (arith, z, number check place refl))
zero_merged P out' (answered first second third) sheet number holds = λ z. holds

pub merge_first : (s t out : List ℕ) (a : Answer) → a ≡ merge_answer has_terms s t out → First a
unfolding merge_answer_with
merge_first s t out a answer check place e =
    (refusal_number (merge_numbered has_terms s t out) (answer_refuses (merge_verdict has_terms s t out) (merged_length has_terms s t) 0 0 (sym e ∙ answer))).0
