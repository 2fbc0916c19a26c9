-- What the numbers promise of the sheet, beside the equations: for callers who see only them.
use Rattle.std.specs.Prelude.{ℕ, ◌+◌, ◌*◌, ◌≤◌, ◌<◌, List, ◌↔◌, ◌≡◌, take}
use Rattle.sheet.specs.Verdicts.{Passes}
use Rattle.sheet.specs.Format.{lot_count}
use Rattle.sheet.specs.Checks.{Accepted}
use Rattle.sheet.specs.Conditions.{conditions}
use Rattle.sheet.specs.Answers.{answered}
use Rattle.equality.specs.Meaning.{Meets, CanBeMet, CannotBeMet}
use Rattle.equality.specs.Search.{search_tree, node_count, branching}
use Rattle.equality.specs.Evaluator.{grouping_verdict, GroupingMeets}
use Rattle.limit.specs.Meaning.{Limit, Keeps, CanBeMetUnder, CannotBeMetUnder}
use Rattle.evaluator.specs.Answers.{Evaluated}
use Rattle.reassignment.specs.Moves.{Counted}
use Rattle.counter.specs.Answers.{CountMeans}
use Rattle.store.specs.Records.{record_length, capacity}
use Rattle.outcome.specs.Outcome.{ZeroGroup}
use Rattle.outcome.specs.Limited.{tree_of, verdict_under, GroupingMeetsUnder, ZeroGroupUnder}
use Rattle.refutation.specs.Refutation.{Refutes, RefutesUnder}
use Rattle.numbers.specs.declared.Numbers.{Numbers}

-- Of the reader: no check refuses exactly when the sheet is accepted.
abbrev pub ZeroExactly : Numbers → List ℕ → Type 0
ZeroExactly r s = r.check ≡ 0 ↔ Accepted s

-- Store full exactly when no earlier check refuses and the search visits more nodes than the store holds records.
abbrev pub NineExactly : Numbers → List ℕ → List ℕ → List ℕ → Type 0
NineExactly r s grouping store = r.check ≡ 9 ↔ (grouping_verdict s grouping ≡ Passes) × (capacity store < node_count (search_tree (conditions s)))

-- Of a search that was not refused: 1 exactly when somebody could give the lots whole numbers, 0 to lot 0, that meet every condition,
abbrev pub OneExactly : Numbers → List ℕ → Type 0
OneExactly r s = r.check ≡ 0 → (r.first ≡ 1 ↔ CanBeMet s)

-- and then the grouping as it is at exit meets them,
abbrev pub OneMeets : Numbers → List ℕ → List ℕ → Type 0
OneMeets r s grouping' = r.check ≡ 0 → r.first ≡ 1 → GroupingMeets grouping' s

-- and a lot's number there is 0 exactly when the lot is in lot 0's class;
abbrev pub OneZero : Numbers → List ℕ → List ℕ → Type 0
OneZero r s grouping' = r.check ≡ 0 → r.first ≡ 1 → ZeroGroup s grouping'

-- 2 exactly when nobody could,
abbrev pub TwoExactly : Numbers → List ℕ → Type 0
TwoExactly r s = r.check ≡ 0 → (r.first ≡ 2 ↔ CannotBeMet s)

-- whichever number they gave lot 0,
abbrev pub TwoWhichever : Numbers → List ℕ → Type 0
TwoWhichever r s = r.check ≡ 0 → r.first ≡ 2 → (f : ℕ → ℕ) → ¬ Meets f s

-- and then the counted records of the store as it is at exit are a refutation.
abbrev pub TwoRefutes : Numbers → List ℕ → List ℕ → Type 0
TwoRefutes r s store' = r.check ≡ 0 → r.first ≡ 2 → Refutes s (take (record_length * r.second) store')

-- The nodes are at most 2 × P − 1: the count is below 2 × P, and a store that is full holds fewer than 2 × P − 1 records.
abbrev pub NodesBounded : Numbers → List ℕ → Type 0
NodesBounded r s = (r.check ≡ 0 → r.second < 2 * branching (conditions s)) × (r.check ≡ 9 → r.first + 1 < 2 * branching (conditions s))

-- Of an evaluation that was not refused: 0, and the grouping meets the sheet; or the lowest condition that it doesn't meet.
abbrev pub FirstUnmet : Numbers → List ℕ → List ℕ → Type 0
FirstUnmet r s grouping = r.check ≡ 0 → Evaluated (answered r.first r.second r.third) s grouping

-- Of a count that was not refused: at most m, and 0 exactly where the evaluator answers 0, which is where the grouping meets the sheet.
abbrev pub UnmetCounted : Numbers → List ℕ → List ℕ → Type 0
UnmetCounted r s grouping = r.check ≡ 0 → CountMeans (answered r.first r.second r.third) s grouping

-- Of a reassignment with a running count that is right, which is the one that the counting service answers: where no check refuses, the new count is right for
-- the grouping as it is at exit,
abbrev pub ZeroCounted : Numbers → List ℕ → List ℕ → ℕ → List ℕ → Type 0
ZeroCounted r s grouping count grouping' =
    Counted s (record { grouping = grouping; count = count }) → r.check ≡ 0 → Counted s (record { grouping = grouping'; count = r.first })

-- and no check refuses where the lot is one of 1 to n.
abbrev pub RightAccepted : Numbers → List ℕ → List ℕ → ℕ → ℕ → Type 0
RightAccepted r s grouping count lot = Counted s (record { grouping = grouping; count = count }) → 1 ≤ lot → lot ≤ lot_count s → r.check ≡ 0

-- Of the checker: no check refuses exactly when the list is a refutation,
abbrev pub ZeroPassed : Numbers → List ℕ → List ℕ → Type 0
ZeroPassed r s list = r.check ≡ 0 ↔ Refutes s list

-- and then nobody can meet the sheet, whichever number they give lot 0, whatever the list and from whichever hand.
abbrev pub ZeroMeans : Numbers → List ℕ → Type 0
ZeroMeans r s = r.check ≡ 0 → (f : ℕ → ℕ) → ¬ Meets f s

-- ---- under a limit on the classes

-- Store full exactly when no earlier check refuses and the search visits more nodes than the store holds records.
abbrev pub NineExactlyUnder : Limit → Numbers → List ℕ → List ℕ → List ℕ → Type 0
NineExactlyUnder limit r s grouping store = r.check ≡ 9 ↔ (verdict_under limit s grouping ≡ Passes) × (capacity store < node_count (tree_of limit s))

-- Of a search that was not refused: 1 exactly when somebody could give the lots whole numbers that meet every condition and keep the limit, 0 to lot 0,
abbrev pub OneExactlyUnder : Limit → Numbers → List ℕ → Type 0
OneExactlyUnder limit r s = r.check ≡ 0 → (r.first ≡ 1 ↔ CanBeMetUnder limit s)

-- and then the grouping as it is at exit does,
abbrev pub OneMeetsUnder : Limit → Numbers → List ℕ → List ℕ → Type 0
OneMeetsUnder limit r s grouping' = r.check ≡ 0 → r.first ≡ 1 → GroupingMeetsUnder limit grouping' s

-- and a lot's number there is 0 exactly when the lot is in lot 0's class;
abbrev pub OneZeroUnder : Limit → Numbers → List ℕ → List ℕ → Type 0
OneZeroUnder limit r s grouping' = r.check ≡ 0 → r.first ≡ 1 → ZeroGroupUnder limit s grouping'

-- 2 exactly when nobody could,
abbrev pub TwoExactlyUnder : Limit → Numbers → List ℕ → Type 0
TwoExactlyUnder limit r s = r.check ≡ 0 → (r.first ≡ 2 ↔ CannotBeMetUnder limit s)

-- whichever number they gave lot 0,
abbrev pub TwoWhicheverUnder : Limit → Numbers → List ℕ → Type 0
TwoWhicheverUnder limit r s = r.check ≡ 0 → r.first ≡ 2 → (f : ℕ → ℕ) → Keeps limit (lot_count s) f → ¬ Meets f s

-- and then the counted records of the store as it is at exit are a refutation under the same limit.
abbrev pub TwoRefutesUnder : Limit → Numbers → List ℕ → List ℕ → Type 0
TwoRefutesUnder limit r s store' = r.check ≡ 0 → r.first ≡ 2 → RefutesUnder limit s (take (record_length * r.second) store')

-- Of the checker: no check refuses exactly when the list is a refutation under the limit,
abbrev pub ZeroPassedUnder : Limit → Numbers → List ℕ → List ℕ → Type 0
ZeroPassedUnder limit r s list = r.check ≡ 0 ↔ RefutesUnder limit s list

-- and then nobody who keeps the limit can meet the sheet.
abbrev pub ZeroMeansUnder : Limit → Numbers → List ℕ → Type 0
ZeroMeansUnder limit r s = r.check ≡ 0 → (f : ℕ → ℕ) → Keeps limit (lot_count s) f → ¬ Meets f s

-- ---- writers

-- Of a service that writes a sheet: where no check refuses, P holds of what was written, the first bytes of the output as it is at exit.
abbrev pub ZeroWritten : (List ℕ → Type 0) → Numbers → List ℕ → Type 0
ZeroWritten P r out' = r.check ≡ 0 → P (take r.first out')
