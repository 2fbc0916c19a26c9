-- The outcome of a search with a limit on the classes or without one (document 02, job 7): the checks before it, the answer and the two buffers afterwards.
use Rattle.std.specs.Prelude.{ℕ, true, List, [], ◌∷◌, ◌++◌, ◌↔◌, ◌≡◌, ltb}
use Rattle.sheet.specs.Verdicts.{Verdict}
use Rattle.sheet.specs.Format.{lot_count}
use Rattle.sheet.specs.Conditions.{InLots, conditions}
use Rattle.sheet.specs.Checks.{or_else, refuses_if, first_refusal, sheet_checks}
use Rattle.equality.specs.Node.{share}
use Rattle.equality.specs.Search.{Tree, node_count, met_decisions}
use Rattle.equality.specs.Evaluator.{check8, number_in, GroupingMeets}
use Rattle.limit.specs.Meaning.{Limit, Keeps, limit_checks}
use Rattle.limit.specs.Search.{tree_under}
use Rattle.store.specs.Records.{capacity}
use Rattle.outcome.specs.Outcome.{Outcome, result_of, outcome_of}

-- The nodes that the search of a sheet visits, of its lots 0 to n.
abbrev pub tree_of : Limit → List ℕ → Tree
tree_of limit s = tree_under limit (lot_count s) (conditions s)

-- The first of the checks that a search can fail before anything is tried: "20 .. right after 7", so before 8.
unfoldable pub verdict_under : Limit → List ℕ → List ℕ → Verdict
verdict_under limit s grouping = first_refusal (sheet_checks s ++ (limit_checks limit ++ check8 s grouping ∷ []))

-- "during the search | 9 | store full | S"
unfoldable pub check9_under : Limit → List ℕ → List ℕ → Verdict
check9_under limit s store = refuses_if (ltb (capacity store) (node_count (tree_of limit s))) 9 (capacity store)

-- The first check that refuses, 9 with them.
unfoldable pub search_verdict_under : Limit → List ℕ → List ℕ → List ℕ → Verdict
search_verdict_under limit s grouping store = or_else (verdict_under limit s grouping) (check9_under limit s store)

-- Answer, grouping and store, as document 01 has them, of the nodes visited. (Without a limit this is `search_outcome`: `unlimited-outcome`.)
unfoldable pub outcome_under : Limit → List ℕ → List ℕ → List ℕ → Outcome
outcome_under limit s grouping store =
    outcome_of (lot_count s) (result_of (verdict_under limit s grouping) (capacity store) (tree_of limit s)) grouping store

-- ---- what a grouping says

-- It meets the sheet, and has no more different numbers than the limit admits.
abbrev pub GroupingMeetsUnder : Limit → List ℕ → List ℕ → Type 0
GroupingMeetsUnder limit grouping s = GroupingMeets grouping s × Keeps limit (lot_count s) (number_in grouping)

-- Each lot's number is 0 exactly when the lot is in lot 0's class at the met node.
abbrev pub ZeroGroupUnder : Limit → List ℕ → List ℕ → Type 0
ZeroGroupUnder limit s grouping =
    (lot : ℕ) → InLots (lot_count s) lot → (number_in grouping lot ≡ 0 ↔ share (met_decisions (tree_of limit s)) lot 0 ≡ true)
