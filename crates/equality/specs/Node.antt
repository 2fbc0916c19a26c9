-- One node of the search (document 01, "One node of the search"; source document 001, section 5.2 and figure 1). Two points differ
-- from 001, as document 01 says: the first open term is split on, not the last; and a term whose lots are known apart is false, where
-- 001 may split on it again.
use Rattle.std.specs.Prelude.{ℕ, suc, min, Bool, true, false, cond, ◌&&◌, ◌||◌, List, [], ◌∷◌, map, eqb, get_or}
use Rattle.sheet.specs.Format.{most_lots}
use Rattle.sheet.specs.Conditions.{Term, same, apart, count_up}
use Rattle.equality.specs.Meaning.{Holds, some_term}

-- "A node has a list of decisions: pairs set same and pairs set apart.": a decision is the term that it makes true. The latest comes
-- first. (The path to the node.)
abbrev pub Decisions : Type 0
Decisions = List Term

-- An assignment respects decisions: each of them holds.
unfoldable pub Respects : {A : Type 0} → (ℕ → A) → Decisions → Type 0
Respects f [] = Unit {0}
Respects f (d ∷ ds) = Holds f d × Respects f ds

-- ---- classes (document 01: consignments)

-- "Joining two consignments gives every lot of both the smaller of the two numbers.": the classes numbered x and y become one.
unfoldable pub merged : ℕ → ℕ → List ℕ → List ℕ
merged x y classes = map (λ z. cond (eqb z x || eqb z y) (min x y) z) classes

-- The class of a lot.
abbrev pub class_of : List ℕ → ℕ → ℕ
class_of cs lot = get_or cs lot 0

-- "The same pairs split the lots into consignments; each is known by its smallest lot.": the entry at a lot's number is its class.
-- There is an entry for each number that a lot can have, 0 to 128; lot 0 and the sheet's own lots are the first.
unfoldable pub classes : Decisions → List ℕ
classes [] = count_up (suc most_lots) 0
classes (same a b ∷ ds) = merged (class_of (classes ds) a) (class_of (classes ds) b) (classes ds)
classes (apart a b ∷ ds) = classes ds

-- The smallest lot of a lot's class.
abbrev pub smallest_lot : Decisions → ℕ → ℕ
smallest_lot ds lot = class_of (classes ds) lot

-- The lots share a class.
abbrev pub share : Decisions → ℕ → ℕ → Bool
share ds a b = eqb (smallest_lot ds a) (smallest_lot ds b)

-- ---- marks

-- Of two lots, one is in class x and one in class y, by the classes given.
abbrev pub between : List ℕ → ℕ → ℕ → ℕ → ℕ → Bool
between cs x y a b = eqb (class_of cs a) x && eqb (class_of cs b) y || eqb (class_of cs a) y && eqb (class_of cs b) x

-- "Two consignments are marked apart when some pair set apart has one lot in each.": the classes numbered x and y.
unfoldable pub marked : List ℕ → Decisions → ℕ → ℕ → Bool
marked cs [] x y = false
marked cs (same a b ∷ ds) x y = marked cs ds x y
marked cs (apart a b ∷ ds) x y = between cs x y a b || marked cs ds x y

-- The classes of two lots are marked apart.
abbrev pub marked_apart : Decisions → ℕ → ℕ → Bool
marked_apart ds a b = marked (classes ds) ds (smallest_lot ds a) (smallest_lot ds b)

-- ---- the three values of a term

pub data Value : Type 0 where
  is_true : Value
  is_false : Value
  is_open : Value

-- ""same a b": true if a and b share a consignment, false if theirs are marked apart, otherwise open.
-- "apart a b": false if they share one, true if theirs are marked apart, otherwise open. For both signs sharing is looked at first."
unfoldable pub value : Decisions → Term → Value
value ds (same a b) = cond (share ds a b) is_true (cond (marked_apart ds a b) is_false is_open)
value ds (apart a b) = cond (share ds a b) is_false (cond (marked_apart ds a b) is_true is_open)

-- A term of this value is true, or is an open "apart" term.
abbrev pub true_or_open_apart : Term → Value → Bool
true_or_open_apart t is_true = true
true_or_open_apart t is_false = false
true_or_open_apart (same a b) is_open = false
true_or_open_apart (apart a b) is_open = true

-- ---- the condition taken

pub data Taken : Type 0 where
  no_condition : Taken
  takes : ℕ → List Term → Taken

-- A condition of these terms is passed over: it has a true term or an open "apart" term, or it is withdrawn, and "the search passes it over" (document 02).
abbrev pub passed_over : Decisions → List Term → Bool
passed_over ds ts = some_term (λ t. true_or_open_apart t (value ds t)) ts

-- "The node takes the lowest-numbered condition that has no true term and no open "apart" term.": of the conditions from c on.
unfoldable pub taken : Decisions → ℕ → List (List Term) → Taken
taken ds c [] = no_condition
taken ds c (ts ∷ tss) = cond (passed_over ds ts) (taken ds (suc c) tss) (takes c ts)

-- ---- what the node is

-- A clique is what only a limit on the classes makes of a node (document 02, job 7; crate `limit`).
pub data Node : Type 0 where
  met : Node
  ground : ℕ → Node
  split : ℕ → ℕ → Node
  clique : Node

-- "lots as written in the term"
abbrev pub split_on : Term → Node
split_on (same a b) = split a b
split_on (apart a b) = split a b

abbrev pub open_or : Term → Value → Node → Node
open_or t is_true rest = rest
open_or t is_false rest = rest
open_or t is_open rest = split_on t

-- "2. It has no open term: the node is a ground, naming the condition. 3. Otherwise it is a split on its first open term"
unfoldable pub ground_or_split : Decisions → ℕ → List Term → Node
ground_or_split ds c [] = ground c
ground_or_split ds c (t ∷ ts) = open_or t (value ds t) (ground_or_split ds c ts)

-- The node by the condition that it takes, where one that takes none is `otherwise`.
abbrev pub node_of : Node → Decisions → Taken → Node
node_of otherwise ds no_condition = otherwise
node_of otherwise ds (takes c ts) = ground_or_split ds c ts

-- The node of these decisions, over these conditions. "1. No such condition: the node is met."
unfoldable pub node : Decisions → List (List Term) → Node
node ds tss = node_of met ds (taken ds 1 tss)
