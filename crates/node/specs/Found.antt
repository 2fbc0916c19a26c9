-- The node's answer as the definition's, what its marks are looked up in, and what a split says of its apart branch; this file states nothing of document 01.
use Rattle.std.specs.Prelude.{ℕ, ◌+◌, ◌*◌, ◌≤◌, List, ◌∷◌, ◌≡◌, length}
use Rattle.sheet.specs.declared.Condition.{Condition}
use Rattle.sheet.specs.declared.Term as written
use Rattle.sheet.specs.Conditions.{apart}
use Rattle.equality.specs.Node.{Decisions, Node, met, ground, split, clique}
use Rattle.limit.specs.Meaning.{Limit}
use Rattle.classes.specs.declared.Classes.{Classes}
use Rattle.classes.specs.Maps.{ClassMap}
use Rattle.classes.specs.Pairs.{PairsWithin}
use Rattle.marks.specs.Marks.{table_length}
use Rattle.scan.specs.declared.Place.{Place}
use Rattle.scan.specs.declared.Place.TheVariants.{Scan, Within, Nowhere, After}
use Rattle.scan.specs.Place.{ResumesWithin, Resumes}
use Rattle.node.specs.declared.Node as declared
use Rattle.node.specs.declared.Node.TheVariants.{Met, Ground, Split}
use Rattle.node.specs.declared.Untaken as untaken
use Rattle.node.specs.declared.Split as pair

-- ---- the answer as the definition's

abbrev pub node_as : declared.Node → Node
node_as Met = met
node_as (Ground c) = ground c.0
node_as (Split on) = split on.a.0 on.b.0

abbrev pub untaken_as : untaken.Untaken → Node
untaken_as untaken.TheVariants.Met = met
untaken_as (untaken.TheVariants.Split on) = split on.a.0 on.b.0
untaken_as untaken.TheVariants.Clique = clique

-- A split on a term of a condition.
abbrev pub split_on : Condition → written.Term → declared.Node
split_on c t = Split (record { a = t.a; b = t.b; apart = Within c t.next })

-- ---- what the marks of a node are looked up in

-- The map is a class map with entries for the lots of the first `count` pairs, and past these pairs the bytes have room for a table.
pub record Markable (map : Classes) (pairs : List ℕ) (count : ℕ) : Type 0 where
  pub entries : ClassMap map.lots
  pub within : PairsWithin pairs count
  pub room : 2 * count + table_length ≤ length pairs

-- ---- what a split says of its apart branch

-- A split on a term: in its condition, after the term.
abbrev pub WithinTerm : List ℕ → Place → Decisions → Type 0
WithinTerm s Scan ds = ⊥
WithinTerm s (Within c r) ds = ResumesWithin s c.0 r.0 ds
WithinTerm s Nowhere ds = ⊥
WithinTerm s (After x y) ds = ⊥

abbrev pub TermLeaves : List ℕ → declared.Node → Decisions → Type 0
TermLeaves s Met ds = Unit {0}
TermLeaves s (Ground c) ds = Unit {0}
TermLeaves s (Split on) ds = WithinTerm s on.apart (apart on.a.0 on.b.0 ∷ ds)

-- A split on a pair of classes: after the pair.
abbrev pub PairSplit : untaken.Untaken → Type 0
PairSplit untaken.TheVariants.Met = Unit {0}
PairSplit (untaken.TheVariants.Split on) = on.apart ≡ After on.a on.b
PairSplit untaken.TheVariants.Clique = Unit {0}

-- It may go on there.
abbrev pub SplitLeaves : Limit → ℕ → List ℕ → pair.Split → Decisions → Type 0
SplitLeaves limit n s on ds = Resumes limit n s on.apart (apart on.a.0 on.b.0 ∷ ds)

abbrev pub PairLeaves : Limit → ℕ → List ℕ → untaken.Untaken → Decisions → Type 0
PairLeaves limit n s untaken.TheVariants.Met ds = Unit {0}
PairLeaves limit n s (untaken.TheVariants.Split on) ds = SplitLeaves limit n s on ds
PairLeaves limit n s untaken.TheVariants.Clique ds = Unit {0}
