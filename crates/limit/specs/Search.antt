-- The nodes that the search visits, with a limit or without one; and the pairs of lots that are not decided, which fall at each split.
use Rattle.std.specs.Prelude.{ℕ, zero, suc, ◌*◌, ◌/◌, Bool, List, [], ◌++◌, map}
use Rattle.sheet.specs.Conditions.{Term, same, count_up}
use Rattle.equality.specs.Node.{Decisions}
use Rattle.equality.specs.Search.{Tree, visit, all_same_terms, search_tree}
use Rattle.equality.specs.Opens.{closed, open_in, open_in_all, opens}
use Rattle.limit.specs.Meaning.{Limit, unlimited, up_to}
use Rattle.limit.specs.Rule.{node_under}

-- The pairs of lots 0 to n: n (n + 1) / 2, at most 8,256.
abbrev pub pair_count : ℕ → ℕ
pair_count n = n * suc n / 2

-- "The search starts with no decisions": the search under the limit g. Each split names a pair of lots 0 to n that is not decided, so any fuel above those
-- pairs gives the same tree (`under_fuel`).
unfoldable pub limited_tree : ℕ → ℕ → List (List Term) → Tree
limited_tree g n tss = visit (node_under (up_to g) n tss) (suc (pair_count n)) []

-- The search with a limit or without one: without, it is document 01's. Both visit by the one node rule (`under_visits`).
abbrev pub tree_under : Limit → ℕ → List (List Term) → Tree
tree_under unlimited n tss = search_tree tss
tree_under (up_to g) n tss = limited_tree g n tss

-- The most splits on a path: without a limit there is one for each "same" term, with one for each pair of lots.
abbrev pub splits_under : Limit → ℕ → List (List Term) → ℕ
splits_under unlimited n tss = all_same_terms tss
splits_under (up_to g) n tss = pair_count n

-- ---- what falls at each split, for measures and for the contracts of inner functions

-- Of `count` lots from lot `from` on, each pair, as a "same" term.
unfoldable pub pairs_from : ℕ → ℕ → List Term
pairs_from zero from = []
pairs_from (suc count) from = map (same from) (count_up count (suc from)) ++ pairs_from count (suc from)

-- The pairs of lots 0 to n that are not decided: neither in one class nor marked apart.
abbrev pub undecided : ℕ → Decisions → ℕ
undecided n ds = opens ds (pairs_from (suc n) 0)

-- What falls, by a test of when a pair is decided: without a limit the open "same" terms, with one the undecided pairs.
abbrev pub open_by : Limit → ℕ → List (List Term) → (ℕ → ℕ → Bool) → ℕ
open_by unlimited n tss shut = open_in_all shut tss
open_by (up_to g) n tss shut = open_in shut (pairs_from (suc n) 0)

-- By the decisions of a path.
abbrev pub open_under : Limit → ℕ → List (List Term) → Decisions → ℕ
open_under limit n tss ds = open_by limit n tss (closed ds)
