-- How the splits above a record are kept in lent numbers, `split_length` to a split, the root's first. For the contracts of the code; what a
-- split and its branches are stands in the definitions of refutations.
use Rattle.std.specs.Prelude.{ℕ, zero, suc, ◌+◌, ◌*◌, ◌-◌, ◌≤◌, ◌<◌, cond, List, [], ◌∷◌, length, get_or, set}
use denote.Ref.{at_last}
use Rattle.sheet.specs.Format.{most_lots, same_sign, apart_sign}
use Rattle.sheet.specs.Conditions.{Term, same, apart, term_of}
use Rattle.refutation.specs.Refutation.{Split, Nearest, no_split, same_split}
use Rattle.path.specs.declared.Split as declared
use Rattle.path.specs.declared.Pair as declared-pair
use Rattle.path.specs.declared.Path as declared-path

-- The numbers of a split: its record number, its next, the branch taken, and its lots as written in the record.
abbrev pub split_length : ℕ
split_length = 5

-- The branch taken is written as the sign of its decision.
abbrev pub same_branch : ℕ
same_branch = same_sign

abbrev pub apart_branch : ℕ
apart_branch = apart_sign

-- ---- the i-th split from the root, counted from 0

abbrev pub branch_in : List ℕ → ℕ → ℕ
branch_in l i = get_or l (split_length * i + 2) 0

abbrev pub first_lot_in : List ℕ → ℕ → ℕ
first_lot_in l i = get_or l (split_length * i + 3) 0

abbrev pub second_lot_in : List ℕ → ℕ → ℕ
second_lot_in l i = get_or l (split_length * i + 4) 0

abbrev pub split_in : List ℕ → ℕ → Split
split_in l i =
    record {
      number = get_or l (split_length * i) 0;
      next = get_or l (split_length * i + 1) 0;
      decision = term_of (branch_in l i) (first_lot_in l i) (second_lot_in l i);
    }

-- ---- the path

-- The first `depth` splits, the nearest first, as the definitions have them.
unfoldable pub path_of : List ℕ → ℕ → List Split
path_of l zero = []
path_of l (suc i) = split_in l i ∷ path_of l i

-- The first `depth` splits are whole within the numbers, and each of their lots has an entry in a class map.
pub record PathWithin (l : List ℕ) (depth : ℕ) : Type 0 where
  pub within : split_length * depth ≤ length l
  pub lots : (i : ℕ) → i < depth → (first_lot_in l i ≤ most_lots) × (second_lot_in l i ≤ most_lots)

-- The nearest split in its same branch, told by how many splits stand above and with it; 0 tells that there is none.
abbrev pub nearest_as : List ℕ → ℕ → Nearest
nearest_as l zero = no_split
nearest_as l (suc i) = same_split (split_in l i) (first_lot_in l i) (second_lot_in l i) (path_of l i)

-- ---- the code's values

-- The split that is pushed, in its same branch.
abbrev pub split_of : declared.Split → Split
split_of s = record { number = s.number.0; next = s.next.0; decision = same s.a.0 s.b.0 }

-- The decision that a pair of the path stands for.
abbrev pub decision_of : declared-pair.Pair → Term
decision_of p = cond p.same (same p.a.0 p.b.0) (apart p.a.0 p.b.0)

-- ---- the lent path

-- The numbers, once a split is written after the first `depth` splits, in its same branch.
abbrev pub pushed_at : List ℕ → ℕ → declared.Split → List ℕ
pushed_at l depth s =
    set
    (set
    (set
    (set
    (set l (split_length * depth) s.number.0)
    (split_length * depth + 1) s.next.0)
    (split_length * depth + 2) same_branch)
    (split_length * depth + 3) s.a.0)
    (split_length * depth + 4) s.b.0

-- The numbers, once the top split is in its apart branch.
abbrev pub turned_at : List ℕ → ℕ → List ℕ
turned_at l depth = set l (split_length * (depth - 1) + 2) apart_branch

-- The same of the path as it is lent: the same borrow, at the new numbers and the new number of splits.
abbrev pub pushed_path : declared-path.Path → declared.Split → declared-path.Path
pushed_path p s = record { splits = at_last p.splits (pushed_at p.splits.now p.depth s); depth = p.depth + 1 }

abbrev pub turned_path : declared-path.Path → declared-path.Path
turned_path p = record { splits = at_last p.splits (turned_at p.splits.now p.depth); depth = p.depth }

abbrev pub dropped_path : declared-path.Path → declared-path.Path
dropped_path p = record { splits = p.splits; depth = p.depth - 1 }
