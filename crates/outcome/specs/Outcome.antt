-- The search's outcome: from a sheet's bytes and the two buffers as lent, the answer and the two buffers afterwards (document 01,
-- "The node store", second part, and checks 1 to 9 of its table).
use Rattle.std.specs.Prelude.{ℕ, ◌*◌, Bool, true, false, List, ◌↔◌, ◌≡◌, ltb, replicate}
use Rattle.buffers.specs.Written.{written}
use Rattle.sheet.specs.Verdicts.{Verdict, Passes, Refuses}
use Rattle.sheet.specs.Format.{lowest_lot, lot_count}
use Rattle.sheet.specs.Conditions.{InLots, conditions}
use Rattle.sheet.specs.Checks.{or_else, refuses_if}
use Rattle.sheet.specs.Answers.{Answer, refused, answered}
use Rattle.equality.specs.Node.{share}
use Rattle.equality.specs.Search.{Tree, search_tree, is_met, node_count, met_decisions, grouping_bytes}
use Rattle.equality.specs.Evaluator.{grouping_verdict, grouping_verdict_with, number_in}
use Rattle.outcome.specs.Nodes.{records}
use Rattle.store.specs.Records.{encode_all, record_length, capacity}

-- What a search comes to, before any buffer is looked at.
pub data Result : Type 0 where
  -- Refused before the search: check and place.
  refused_result : ℕ → ℕ → Result
  -- Store full, with S.
  full_result : ℕ → Result
  met_result : Tree → Result
  cannot_result : Tree → Result

abbrev pub met_or_cannot : Bool → Tree → Result
met_or_cannot true tree = met_result tree
met_or_cannot false tree = cannot_result tree

-- "Store full: c would exceed S"
abbrev pub full_or : Bool → ℕ → Result → Result
full_or true capacity result = full_result capacity
full_or false capacity result = result

-- From the verdict of the checks before the search, S and the tree that is visited "without regard to any store".
unfoldable pub result_of : Verdict → ℕ → Tree → Result
result_of (Refuses check place) capacity tree = refused_result check place
result_of Passes capacity tree = full_or (ltb capacity (node_count tree)) capacity (met_or_cannot (is_met tree) tree)

-- ---- the checks of a search

-- "during the search | 9 | store full | S"
unfoldable pub check9 : List ℕ → List ℕ → Verdict
check9 s store = refuses_if (ltb (capacity store) (node_count (search_tree (conditions s)))) 9 (capacity store)

-- The first of checks 1 to 9 and 17 that refuses.
unfoldable pub search_verdict : List ℕ → List ℕ → List ℕ → Verdict
search_verdict s grouping store = or_else (grouping_verdict s grouping) (check9 s store)

-- ---- the answer

-- "during the search | 9 | store full | S". "Met and cannot carry the count c of records": after 1 for met and 2 for cannot.
abbrev pub result_answer : Result → Answer
result_answer (refused_result check place) = refused check place
result_answer (full_result capacity) = refused 9 capacity
result_answer (met_result tree) = answered 1 (node_count tree) 0
result_answer (cannot_result tree) = answered 2 (node_count tree) 0

-- ---- the buffers

-- "the grouping only on met (its first n bytes)"
abbrev pub grouping_after : ℕ → Result → List ℕ → List ℕ
grouping_after n (refused_result check place) grouping = grouping
grouping_after n (full_result capacity) grouping = grouping
grouping_after n (met_result tree) grouping = written (grouping_bytes n (met_decisions tree)) grouping
grouping_after n (cannot_result tree) grouping = grouping

-- "only the first 8c bytes are written"; store full: "then the first 8S bytes are zero, the rest untouched". "Only 9 writes anything."
abbrev pub store_after : Result → List ℕ → List ℕ
store_after (refused_result check place) store = store
store_after (full_result capacity) store = written (replicate (record_length * capacity) 0) store
store_after (met_result tree) store = written (encode_all (records 1 tree)) store
store_after (cannot_result tree) store = written (encode_all (records 1 tree)) store

-- ---- all of it

pub record Outcome : Type 0 where
  pub answer : Answer
  pub grouping : List ℕ
  pub store : List ℕ

abbrev pub outcome_of : ℕ → Result → List ℕ → List ℕ → Outcome
outcome_of n result grouping store =
    record {
      answer = result_answer result;
      grouping = grouping_after n result grouping;
      store = store_after result store;
    }

-- The search's outcome: where lots count from `lowest`, and as they do.
unfoldable pub search_outcome_with : ℕ → List ℕ → List ℕ → List ℕ → Outcome
search_outcome_with lowest s grouping store =
    outcome_of (lot_count s) (result_of (grouping_verdict_with lowest s grouping) (capacity store) (search_tree (conditions s))) grouping store

abbrev pub search_outcome : List ℕ → List ℕ → List ℕ → Outcome
search_outcome s grouping store = search_outcome_with lowest_lot s grouping store

-- ---- lot 0's class in a grouping

-- "The smallest lot of a consignment may thus be 0" (document 02): each lot's number in the grouping is 0 exactly when the lot is in lot 0's class at the met
-- node of the sheet's search. (A lot's number is its byte; lot 0 has none, and its number is 0.)
abbrev pub ZeroGroup : List ℕ → List ℕ → Type 0
ZeroGroup s grouping =
    (lot : ℕ) → InLots (lot_count s) lot → (number_in grouping lot ≡ 0 ↔ share (met_decisions (search_tree (conditions s))) lot 0 ≡ true)
