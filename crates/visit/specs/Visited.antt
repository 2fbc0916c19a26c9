-- For the contracts of the inner functions; this file states nothing of document 01.
use Rattle.std.specs.Prelude.{ℕ, ◌+◌, ◌*◌, ◌≤◌, Bool, true, false, cond, List, Option, ◌≡◌, leb, length}
use Rattle.std.proofs.lemmas.List.Edits.{sets}
use Rattle.sheet.specs.Format.{lot_count}
use Rattle.sheet.specs.Conditions.{conditions}
use Rattle.buffers.specs.Lists.{All}
use Rattle.equality.specs.Node.{Decisions, Node, split}
use Rattle.equality.specs.Search.{Tree, is_met, node_count, met_decisions, grouping_bytes}
use Rattle.equality.specs.Opens.{Small}
use Rattle.equality.specs.Visits.{Visits}
use Rattle.limit.specs.Rule.{node_under}
use Rattle.limit.specs.Search.{open_under}
use Rattle.limit.specs.Scan.{limit_in}
use Rattle.classes.specs.declared.Classes.{Classes}
use Rattle.classes.specs.Pairs.{Represents}
use Rattle.marks.specs.Marks.{table_length}
use Rattle.scan.specs.declared.Place.{Place}
use Rattle.node.specs.declared.Split.{Split}
use Rattle.sheet.specs.Inner.{HasConditions}
use Rattle.scan.specs.Settled.{Settled}
use Rattle.scan.specs.Place.{Resumes}
use Rattle.node.specs.Found.{SplitLeaves}
use Rattle.outcome.specs.Nodes.{records}
use Rattle.store.specs.Records.{encode_all, record_length, capacity}
use Rattle.visit.specs.Limits.{pairs_room, most_level}
use Rattle.visit.specs.declared.Visited.{Visited}
use Rattle.visit.specs.declared.Visited.TheVariants.{Met, Cannot, Full}

-- ---- what a visit asks

-- The sheet is accepted, with m conditions, and the grouping has a byte for each of its lots.
pub record Searchable (s : List ℕ) (m : ℕ) (grouping : List ℕ) : Type 0 where
  pub sheet : HasConditions s m
  pub lots : length grouping ≡ lot_count s

-- The rule that the search follows, and what is open under decisions, by the limit that is asked for, or none.
abbrev pub rule_of : Option ℕ → List ℕ → Decisions → Node
rule_of limit s = node_under (limit_in limit) (lot_count s) (conditions s)

abbrev pub open_left : Option ℕ → List ℕ → Decisions → ℕ
open_left limit s ds = open_under (limit_in limit) (lot_count s) (conditions s) ds

-- The map and the first `count` pairs are those of the path `ds`, whose lots have entries in the map. The bytes have room for as many pairs more as there
-- are open "same" terms, or with a limit undecided pairs of lots, and for a table behind them. There are no more bytes than the code has.
pub record Standing (limit : Option ℕ) (s : List ℕ) (map : Classes) (pairs : List ℕ) (count : ℕ) (ds : Decisions) : Type 0 where
  pub represents : Represents map pairs count ds
  pub small : All Small ds
  pub room : 2 * (count + open_left limit s ds) + table_length ≤ length pairs
  pub size : length pairs ≤ pairs_room (limit_in limit) + table_length

-- The level of the path leaves room for one more for each of these.
abbrev pub LevelWithin : Option ℕ → List ℕ → ℕ → Decisions → Type 0
LevelWithin limit s level ds = level + open_left limit s ds ≤ most_level

-- A visit may be made from a place: the settled levels are those of some path that stands so.
pub record Visitable (limit : Option ℕ) (s : List ℕ) (map : Classes) (from : Place) (count level : ℕ) (pairs noted : List ℕ) : Type 0 where
  pub settled : Settled map.lots s noted level
  pub path : Decisions
  pub standing : Standing limit s map pairs count path
  pub resumes : Resumes (limit_in limit) (lot_count s) s from path
  pub levels : LevelWithin limit s level path

-- The same of the branches of a split.
pub record Splittable (limit : Option ℕ) (s : List ℕ) (map : Classes) (on : Split) (count level : ℕ) (pairs noted : List ℕ) : Type 0 where
  pub settled : Settled map.lots s noted level
  pub path : Decisions
  pub standing : Standing limit s map pairs count path
  pub splits : rule_of limit s path ≡ split on.a.0 on.b.0
  pub leaves : SplitLeaves (limit_in limit) (lot_count s) s on path
  pub levels : LevelWithin limit s level path

-- ---- what it does

-- How a visit ends whose nodes, with those before, come to `count` records.
abbrev pub end_with : Bool → ℕ → Visited
end_with true count = Met count
end_with false count = Cannot count

-- How the visit of a tree ends, after `before` records, in a store that holds S.
abbrev pub end_of : ℕ → ℕ → Tree → Visited
end_of S before t = cond (leb (before + node_count t) S) (end_with (is_met t) (before + node_count t)) Full

-- What it leaves of the grouping.
abbrev pub grouping_end : Visited → Tree → List ℕ → List ℕ
grouping_end (Met count) t grouping = grouping_bytes (length grouping) (met_decisions t)
grouping_end (Cannot count) t grouping = grouping
grouping_end Full t grouping = grouping

-- The visit of a tree after `before` records: how it ends; where there is room, the records that it writes; and the grouping.
pub record Explored (before : ℕ) (store store' grouping grouping' : List ℕ) (r : Visited) (t : Tree) : Type 0 where
  pub ends : r ≡ end_of (capacity store) before t
  pub stored : before + node_count t ≤ capacity store → store' ≡ sets store (record_length * before) (encode_all (records (before + 1) t))
  pub grouped : grouping' ≡ grouping_end r t grouping

-- So for every path that the map and the pairs represent, and from which a visit may go on: it explores the tree that the rule visits from there.
abbrev pub VisitExplores : Option ℕ → List ℕ → Classes → Place → ℕ → List ℕ → ℕ → List ℕ → List ℕ → List ℕ → List ℕ → Visited → Type 0
VisitExplores limit s map from count pairs before store store' grouping grouping' r =
    (ds : Decisions) (t : Tree) → Standing limit s map pairs count ds → Resumes (limit_in limit) (lot_count s) s from ds → Visits (rule_of limit s) ds t
    → Explored before store store' grouping grouping' r t

-- The same of every path whose node is a split.
abbrev pub SplitExplores : Option ℕ → List ℕ → Classes → Split → ℕ → List ℕ → ℕ → List ℕ → List ℕ → List ℕ → List ℕ → Visited → Type 0
SplitExplores limit s map on count pairs before store store' grouping grouping' r =
    (ds : Decisions) (t : Tree) → Standing limit s map pairs count ds → rule_of limit s ds ≡ split on.a.0 on.b.0
    → SplitLeaves (limit_in limit) (lot_count s) s on ds → Visits (rule_of limit s) ds t → Explored before store store' grouping grouping' r t
