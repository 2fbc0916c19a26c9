-- What the search promises beside document 01's equations: when each of its cases is answered, and what the case means for the sheet, the
-- grouping and the store.
use Rattle.std.specs.Prelude.{ℕ, ◌+◌, ◌*◌, ◌<◌, List, ◌↔◌, ◌≡◌, take, Ok, Err}
use Rattle.sheet.specs.declared.refusal.Refusal.TheVariants.{FullStore}
use Rattle.sheet.specs.Refusals.{refusal_at}
use Rattle.sheet.specs.Verdicts.{Passes, Refuses}
use Rattle.sheet.specs.Conditions.{conditions}
use Rattle.sheet.specs.Answers.{Answer, refused, answered}
use Rattle.equality.specs.Meaning.{Meets, CanBeMet, CannotBeMet}
use Rattle.equality.specs.Search.{search_tree, node_count, branching}
use Rattle.equality.specs.Evaluator.{grouping_verdict, GroupingMeets}
use Rattle.store.specs.Records.{record_length, capacity}
use Rattle.outcome.specs.Outcome.{Result, refused_result, full_result, met_result, cannot_result, result_of, search_verdict, ZeroGroup}
use Rattle.refutation.specs.Refutation.{check_answer}
use Rattle.search.specs.declared.Found.TheVariants.{Met, Cannot}
use Rattle.search.specs.Answers.{Searched}

-- ---- the case

-- The case of a result.
abbrev pub answer_case : Result → Searched
answer_case (refused_result check place) = Err (refusal_at check place)
answer_case (full_result capacity) = Err (FullStore capacity)
answer_case (met_result tree) = Ok (Met (node_count tree))
answer_case (cannot_result tree) = Ok (Cannot (node_count tree))

-- The search's case, from a sheet's bytes and the two buffers as lent.
unfoldable pub search_case : List ℕ → List ℕ → List ℕ → Searched
search_case s grouping store = answer_case (result_of (grouping_verdict s grouping) (capacity store) (search_tree (conditions s)))

-- ---- what is promised of the answer, in document 01's numbers

-- Refused exactly when one of checks 1 to 9 and 17 refuses; number and place are those of the first that does.
abbrev pub RefusedExactly : Answer → List ℕ → List ℕ → List ℕ → Type 0
RefusedExactly a s grouping store = (check place : ℕ) → (a ≡ refused check place ↔ search_verdict s grouping store ≡ Refuses check place)

-- "Store full: c would exceed S": 9 at S exactly when no check before it refuses and the search visits more nodes than the store holds records.
abbrev pub FullExactly : Answer → List ℕ → List ℕ → List ℕ → Type 0
FullExactly a s grouping store =
    a ≡ refused 9 (capacity store) ↔ (grouping_verdict s grouping ≡ Passes) × (capacity store < node_count (search_tree (conditions s)))

-- By document 01's numbers alone a full store and a refusal by 9 before the search would be one answer, and one refusal. The case tells them apart: it is
-- `FullStore S` exactly where the search's result is full at S.
abbrev pub FullCase : Searched → List ℕ → List ℕ → List ℕ → Type 0
FullCase r s grouping store =
    (most : ℕ) → (r ≡ Err (FullStore most) ↔ result_of (grouping_verdict s grouping) (capacity store) (search_tree (conditions s)) ≡ full_result most)

-- "during the search | 9 | store full | S": no other place is given.
abbrev pub FullPlace : Answer → List ℕ → Type 0
FullPlace a store = (place : ℕ) → a ≡ refused 9 place → place ≡ capacity store

-- ---- met: 1, and the count

-- Of a search that was not refused: met exactly when somebody could give the lots whole numbers, 0 to lot 0, that meet every condition.
abbrev pub MetExactly : Answer → List ℕ → Type 0
MetExactly (refused check place) s = Unit {0}
MetExactly (answered first count third) s = first ≡ 1 ↔ CanBeMet s

-- Where it is met, the grouping as it is at exit meets the sheet,
abbrev pub MetGrouping : Answer → List ℕ → List ℕ → Type 0
MetGrouping (refused check place) s grouping' = Unit {0}
MetGrouping (answered first count third) s grouping' = first ≡ 1 → GroupingMeets grouping' s

-- and a lot's number there is 0 exactly when the lot is in lot 0's class.
abbrev pub MetZero : Answer → List ℕ → List ℕ → Type 0
MetZero (refused check place) s grouping' = Unit {0}
MetZero (answered first count third) s grouping' = first ≡ 1 → ZeroGroup s grouping'

-- ---- cannot: 2, and the count

-- Of a search that was not refused: cannot exactly when nobody could give the lots such numbers,
abbrev pub CannotExactly : Answer → List ℕ → Type 0
CannotExactly (refused check place) s = Unit {0}
CannotExactly (answered first count third) s = first ≡ 2 ↔ CannotBeMet s

-- nor others that have another number for lot 0,
abbrev pub CannotWhichever : Answer → List ℕ → Type 0
CannotWhichever (refused check place) s = Unit {0}
CannotWhichever (answered first count third) s = first ≡ 2 → (f : ℕ → ℕ) → ¬ Meets f s

-- nor values of any other type whose equality is decidable. (A contract's clause cannot speak of all types: this one is a theorem only.)
abbrev pub CannotAny : Answer → List ℕ → Type 1
CannotAny a s = (count : ℕ) → a ≡ answered 2 count 0 → (A : Type 0) → ((x y : A) → Dec (x ≡ y)) → (f : ℕ → A) → ¬ Meets f s

-- "Met and cannot carry the count c of records; only the first 8c bytes are written": where it cannot be met, the checker passes these bytes of the store
-- as it is at exit. `check_answer` is the definition that `checker::check` answers by.
abbrev pub CannotRefutes : Answer → List ℕ → List ℕ → Type 0
CannotRefutes (refused check place) s store' = Unit {0}
CannotRefutes (answered first count third) s store' = first ≡ 2 → check_answer s (take (record_length * count) store') ≡ answered 0 0 0

-- ---- the count

-- The nodes are at most 2 × P − 1, so a store with that many records is never full: P is `branching`, the count is below 2 × P, and a store that is full
-- holds fewer than 2 × P − 1 records.
abbrev pub CountBounded : Answer → List ℕ → Type 0
CountBounded (refused check place) s = check ≡ 9 → place + 1 < 2 * branching (conditions s)
CountBounded (answered first count third) s = count < 2 * branching (conditions s)
