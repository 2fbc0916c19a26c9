-- What is promised of the search without a limit is what is promised with a limit, where there is none.
use Prim.Native.Nat.{ℕ}
use mathlib.Core.List.{List}
use mathlib.Core.Path.{◌≡◌, refl}
use Rattle.sheet.specs.Answers.{Answer, refused, answered}
use Rattle.limit.specs.Meaning.{unlimited}
use Rattle.outcome.specs.Limited.{verdict_under}
use Rattle.outcome.proofs.Checked.{unlimited_verdict, unlimited-searched, unlimited_zero}
use Rattle.equality.specs.Evaluator.{grouping_verdict_with}
use Rattle.search.specs.Answers.{Searched}
use Rattle.search.specs.Promises.{search_case, RefusedExactly, FullExactly, FullCase, MetExactly, MetGrouping, MetZero, CannotExactly, CannotWhichever, CannotAny, CannotRefutes}
use Rattle.search.specs.Limited.{case_under, RefusedExactlyUnder, FullExactlyUnder, FullCaseUnder, MetExactlyUnder, MetGroupingUnder, MetZeroUnder, CannotExactlyUnder, CannotWhicheverUnder, CannotAnyUnder, CannotRefutesUnder}

-- The case is that of the search without a limit.
pub unlimited_case : (s grouping store : List ℕ) → case_under unlimited s grouping store ≡ search_case s grouping store
unfolding case_under search_case verdict_under grouping_verdict_with
unlimited_case s grouping store = refl

module _ (s grouping store : List ℕ) where
  pub refused_plain : (a : Answer) → RefusedExactlyUnder unlimited a s grouping store → RefusedExactly a s grouping store
  refused_plain a h check place = rw (unlimited-searched s grouping store) at (h check place)

  pub full_plain : (a : Answer) → FullExactlyUnder unlimited a s grouping store → FullExactly a s grouping store
  full_plain a h = rw (unlimited_verdict s grouping) at h

  pub full_case_plain : (r : Searched) → FullCaseUnder unlimited r s grouping store → FullCase r s grouping store
  full_case_plain r h = rw (unlimited_verdict s grouping) at h

module _ (s : List ℕ) where
  pub met_plain : (a : Answer) → MetExactlyUnder unlimited a s → MetExactly a s
  met_plain (refused check place) h = tt
  met_plain (answered first count third) h =
      ((λ one. let some = h.0 one in (some.0, some.1, some.3)), (λ some. h.1 (some.0, some.1, tt, some.2)))

  pub grouping_plain : (a : Answer) (grouping' : List ℕ) → MetGroupingUnder unlimited a s grouping' → MetGrouping a s grouping'
  grouping_plain (refused check place) grouping' h = tt
  grouping_plain (answered first count third) grouping' h = λ one. (h one).0

  pub zero_plain : (a : Answer) (grouping' : List ℕ) → MetZeroUnder unlimited a s grouping' → MetZero a s grouping'
  zero_plain (refused check place) grouping' h = tt
  zero_plain (answered first count third) grouping' h = λ one. unlimited_zero s grouping' (h one)

  pub cannot_plain : (a : Answer) → CannotExactlyUnder unlimited a s → CannotExactly a s
  cannot_plain (refused check place) h = tt
  cannot_plain (answered first count third) h =
      ((λ two f zero. h.0 two f zero tt), (λ nobody. h.1 (λ f zero keeps'. nobody f zero)))

  pub whichever_plain : (a : Answer) → CannotWhicheverUnder unlimited a s → CannotWhichever a s
  whichever_plain (refused check place) h = tt
  whichever_plain (answered first count third) h = λ two f. h two f tt

  pub any_plain : (a : Answer) → CannotAnyUnder unlimited a s → CannotAny a s
  any_plain a h count two A decide f = h count two A decide f tt

  pub refutes_plain : (a : Answer) (store' : List ℕ) → CannotRefutesUnder unlimited a s store' → CannotRefutes a s store'
  refutes_plain (refused check place) store' h = tt
  refutes_plain (answered first count third) store' h = h
