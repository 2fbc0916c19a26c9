-- What the search under a limit promises beside its equations (document 02, job 7): as the search without one, of the assignments that keep the limit.
use Rattle.std.specs.Prelude.{ℕ, ◌*◌, ◌<◌, List, ◌↔◌, ◌≡◌, take, Err}
use Rattle.sheet.specs.declared.refusal.Refusal.TheVariants.{FullStore}
use Rattle.sheet.specs.Verdicts.{Passes, Refuses}
use Rattle.sheet.specs.Format.{lowest_lot, lot_count}
use Rattle.sheet.specs.Answers.{Answer, refused, answered}
use Rattle.equality.specs.Meaning.{Meets}
use Rattle.equality.specs.Search.{node_count}
use Rattle.limit.specs.Meaning.{Limit, up_to, Keeps, CanBeMetUnder, CannotBeMetUnder}
use Rattle.store.specs.Records.{record_length, capacity}
use Rattle.outcome.specs.Outcome.{Outcome, full_result, result_of}
use Rattle.outcome.specs.Limited.{tree_of, verdict_under, search_verdict_under, outcome_under, GroupingMeetsUnder, ZeroGroupUnder}
use Rattle.refutation.specs.Refutation.{check_answer_under}
use Rattle.search.specs.Answers.{Searched}
use Rattle.search.specs.Promises.{answer_case}

-- ---- the case and the outcome

-- With a limit or without one: from a sheet's bytes and the two buffers as lent.
unfoldable pub case_under : Limit → List ℕ → List ℕ → List ℕ → Searched
case_under limit s grouping store = answer_case (result_of (verdict_under limit s grouping) (capacity store) (tree_of limit s))

-- With one, whatever number it is.
abbrev pub limited_case : List ℕ → ℕ → List ℕ → List ℕ → Searched
limited_case s limit grouping store = case_under (up_to limit) s grouping store

abbrev pub limited_outcome : List ℕ → ℕ → List ℕ → List ℕ → Outcome
limited_outcome s limit grouping store = outcome_under (up_to limit) s grouping store

-- ---- what is promised of the answer, in document 01's numbers

-- Refused exactly when one of checks 1 to 9, 17 and 20 refuses; number and place are those of the first that does.
abbrev pub RefusedExactlyUnder : Limit → Answer → List ℕ → List ℕ → List ℕ → Type 0
RefusedExactlyUnder limit a s grouping store =
    (check place : ℕ) → (a ≡ refused check place ↔ search_verdict_under limit s grouping store ≡ Refuses check place)

-- 9 at S exactly when no check before it refuses and the search visits more nodes than the store holds records.
abbrev pub FullExactlyUnder : Limit → Answer → List ℕ → List ℕ → List ℕ → Type 0
FullExactlyUnder limit a s grouping store =
    a ≡ refused 9 (capacity store) ↔ (verdict_under limit s grouping ≡ Passes) × (capacity store < node_count (tree_of limit s))

-- The case is `FullStore S` exactly where the search's result is full at S, and not where a check before the search refuses.
abbrev pub FullCaseUnder : Limit → Searched → List ℕ → List ℕ → List ℕ → Type 0
FullCaseUnder limit r s grouping store =
    (most : ℕ) → (r ≡ Err (FullStore most) ↔ result_of (verdict_under limit s grouping) (capacity store) (tree_of limit s) ≡ full_result most)

-- ---- met: 1, and the count

-- Of a search that was not refused: met exactly when somebody could give the lots whole numbers that meet every condition and keep the limit, 0 to lot 0.
abbrev pub MetExactlyUnder : Limit → Answer → List ℕ → Type 0
MetExactlyUnder limit (refused check place) s = Unit {0}
MetExactlyUnder limit (answered first count third) s = first ≡ 1 ↔ CanBeMetUnder limit s

-- Where it is met, the grouping as it is at exit is one of those,
abbrev pub MetGroupingUnder : Limit → Answer → List ℕ → List ℕ → Type 0
MetGroupingUnder limit (refused check place) s grouping' = Unit {0}
MetGroupingUnder limit (answered first count third) s grouping' = first ≡ 1 → GroupingMeetsUnder limit grouping' s

-- and a lot's number there is 0 exactly when the lot is in lot 0's class.
abbrev pub MetZeroUnder : Limit → Answer → List ℕ → List ℕ → Type 0
MetZeroUnder limit (refused check place) s grouping' = Unit {0}
MetZeroUnder limit (answered first count third) s grouping' = first ≡ 1 → ZeroGroupUnder limit s grouping'

-- ---- cannot: 2, and the count

-- Of a search that was not refused: cannot exactly when nobody could give the lots such numbers,
abbrev pub CannotExactlyUnder : Limit → Answer → List ℕ → Type 0
CannotExactlyUnder limit (refused check place) s = Unit {0}
CannotExactlyUnder limit (answered first count third) s = first ≡ 2 ↔ CannotBeMetUnder limit s

-- nor others that have another number for lot 0,
abbrev pub CannotWhicheverUnder : Limit → Answer → List ℕ → Type 0
CannotWhicheverUnder limit (refused check place) s = Unit {0}
CannotWhicheverUnder limit (answered first count third) s = first ≡ 2 → (f : ℕ → ℕ) → Keeps limit (lot_count s) f → ¬ Meets f s

-- nor values of any other type whose equality is decidable. (A contract's clause cannot speak of all types: this one is a theorem only.)
abbrev pub CannotAnyUnder : Limit → Answer → List ℕ → Type 1
CannotAnyUnder limit a s =
    (count : ℕ) → a ≡ answered 2 count 0 → (A : Type 0) → ((x y : A) → Dec (x ≡ y)) → (f : ℕ → A) → Keeps limit (lot_count s) f → ¬ Meets f s

-- Where it cannot be met, the checker passes the first 8 × c bytes of the store as it is at exit, with the same limit: `check_answer_under (up_to g) lowest_lot` is
-- the definition that `checker::check_limited` answers by, there called `limited_check_answer`.
abbrev pub CannotRefutesUnder : Limit → Answer → List ℕ → List ℕ → Type 0
CannotRefutesUnder limit (refused check place) s store' = Unit {0}
CannotRefutesUnder limit (answered first count third) s store' =
    first ≡ 2 → check_answer_under limit lowest_lot s (take (record_length * count) store') ≡ answered 0 0 0
