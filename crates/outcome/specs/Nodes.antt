-- The records of a search, "one record .. per node visited, numbered from 1 in order of visit" (document 01, "The node store").
use Rattle.std.specs.Prelude.{ℕ, ◌+◌, List, [], ◌∷◌, ◌++◌}
use Rattle.equality.specs.Search.{Tree, met_leaf, ground_leaf, clique_leaf, one_branch, two_branches, node_count}
use Rattle.store.specs.Records.{NodeRecord, split_record, ground_record, met_record, clique_record}

-- (The same branch is document 01's equal branch, the apart branch its different branch.)
-- "In the list a split is followed by everything under its equal branch, then everything under its different branch; next is the record
-- where that second branch begins, zero if never visited.": the records of a tree whose first has the number `at`.
unfoldable pub records : ℕ → Tree → List NodeRecord
records at (met_leaf ds) = met_record ∷ []
records at (ground_leaf c) = ground_record c ∷ []
records at clique_leaf = clique_record ∷ []
records at (one_branch a b t) = split_record a b 0 ∷ records (at + 1) t
records at (two_branches a b t u) =
    split_record a b (at + 1 + node_count t) ∷ records (at + 1) t ++ records (at + 1 + node_count t) u
