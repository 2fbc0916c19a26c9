-- What a visit finds at its place: a ground, nothing taken, or a split, whatever path the map and the pairs represent.
use Prim.Native.Nat.{ℕ, ◌+◌, ◌*◌, ◌-◌, ◌≤◌}
use mathlib.Core.List.{List}
use mathlib.Core.Path.{◌≡◌, sym, ap, subst, ◌∙◌}
use native.Mathlib.Omega.{arith}
use Rattle.std.specs.Prelude.{Option}
use lib.ListN.{length}
use Rattle.sheet.specs.Format.{lot_count}
use Rattle.sheet.specs.declared.Condition.{Condition}
use Rattle.sheet.specs.Conditions.{conditions}
use Rattle.equality.specs.Node.{Decisions, no_condition, classes, taken, ground, split, node}
use Rattle.equality.proofs.Rule.{met-none}
use Rattle.limit.specs.Meaning.{Limit}
use Rattle.limit.specs.Rule.{none_taken}
use Rattle.limit.specs.Scan.{limit_in}
use Rattle.limit.proofs.Resumes.{under_none}
use Rattle.classes.specs.declared.Classes.{Classes}
use Rattle.classes.specs.Pairs.{Represents, Untouched}
use Rattle.marks.specs.Marks.{table_length, Outside}
use Rattle.marks.proofs.Marks.{outside-front}
use Rattle.scan.specs.declared.Place.{Place}
use Rattle.scan.specs.Place.{Resumes, Stands}
use Rattle.node.specs.declared.Node as declared
use Rattle.node.specs.declared.Untaken as untaken
use Rattle.node.specs.declared.Split.{Split}
use Rattle.node.specs.Found.{node_as, untaken_as, TermLeaves, SplitLeaves, PairLeaves}
use Rattle.node.proofs.Leaving.{ground_under, split_under, term_leaves}
use Rattle.visit.specs.Visited.{rule_of, Standing}
use Rattle.visit.proofs.Standing.{below_standing}

-- Any path that a map and pairs represent, and from which a visit may go on.
abbrev pub VisitedBy : Option ℕ → List ℕ → Classes → Place → ℕ → List ℕ → Decisions → Type 0
VisitedBy limit s map from count pairs ds = Standing limit s map pairs count ds × Resumes (limit_in limit) (lot_count s) s from ds

-- A split: its lots, where its apart branch goes on, and the pairs, which are as they were.
pub record Parts (limit : Option ℕ) (s : List ℕ) (map : Classes) (from : Place) (count : ℕ) (pairs pairs' : List ℕ) (on : Split) : Type 0 where
  pub sized : length pairs' ≡ length pairs
  pub untouched : Untouched pairs pairs' count
  pub splits : (ds : Decisions) → VisitedBy limit s map from count pairs ds → rule_of limit s ds ≡ split on.a.0 on.b.0
  pub leaves : (ds : Decisions) → VisitedBy limit s map from count pairs ds → SplitLeaves (limit_in limit) (lot_count s) s on ds

-- What `locate` and `node_at` ensure, by the numbers that the visit gives them.
pub record Looked (limit : Option ℕ) (s : List ℕ) (map : Classes) (from place : Place) (count : ℕ) (pairs pairs₁ : List ℕ) (found : declared.Node) : Type 0 where
  pub stands : (l : Limit) (n : ℕ) (ds : Decisions) → map.lots ≡ classes ds → Resumes l n s from ds → Stands l n s place ds
  pub node : (l : Limit) (n : ℕ) (ds : Decisions) → Represents map pairs count ds → Stands l n s place ds → node_as found ≡ node ds (conditions s)
  pub leaves : (l : Limit) (n : ℕ) (ds : Decisions) → Represents map pairs count ds → Stands l n s place ds → TermLeaves s found ds
  pub outside : Outside pairs pairs₁ (length pairs - table_length)
  pub sized : length pairs₁ ≡ length pairs
  pub room : 2 * count + table_length ≤ length pairs

pub look : {limit : Option ℕ} {s : List ℕ} {map : Classes} {from place : Place} {count : ℕ} {pairs pairs₁ : List ℕ} {found : declared.Node} {path : Decisions}
    → Standing limit s map pairs count path
    → ((l : Limit) (n : ℕ) (ds : Decisions) → map.lots ≡ classes ds → Resumes l n s from ds → Stands l n s place ds)
    → ((l : Limit) (n : ℕ) (ds : Decisions) → Represents map pairs count ds → Stands l n s place ds → node_as found ≡ node ds (conditions s))
    → ((l : Limit) (n : ℕ) (ds : Decisions) → Represents map pairs count ds → Stands l n s place ds → TermLeaves s found ds)
    → Outside pairs pairs₁ (length pairs - table_length) → length pairs₁ ≡ length pairs → Looked limit s map from place count pairs pairs₁ found
look st stands node_is leaves outside sized =
    record { stands = stands; node = node_is; leaves = leaves; outside = outside; sized = sized; room = omega (arith, st.room) }

module _ {limit : Option ℕ} {s : List ℕ} {map : Classes} {from place : Place} {count : ℕ} {pairs pairs₁ : List ℕ} {found : declared.Node}
    (l : Looked limit s map from place count pairs pairs₁ found) where
  here : (ds : Decisions) → VisitedBy limit s map from count pairs ds → Stands (limit_in limit) (lot_count s) s place ds
  here ds at = l.stands (limit_in limit) (lot_count s) ds at.0.represents.lots at.1

  node_here : (ds : Decisions) → VisitedBy limit s map from count pairs ds → node_as found ≡ node ds (conditions s)
  node_here ds at = l.node _ _ ds at.0.represents (here ds at)

  front : Untouched pairs pairs₁ count
  front = outside-front l.outside count (omega (arith, l.room))

  pub still : (ds : Decisions) → Standing limit s map pairs count ds → Standing limit s map pairs₁ count ds
  still ds st = below_standing st pairs₁ l.sized front

  -- A ground,
  pub is_ground : (c : Condition) → found ≡ declared.TheVariants.Ground c → (ds : Decisions) → VisitedBy limit s map from count pairs ds → rule_of limit s ds ≡ ground c.0
  is_ground c is ds at = ground_under (limit_in limit) (lot_count s) s ds _ (sym (ap node_as is) ∙ node_here ds at)

  -- a split on a term,
  pub term_parts : (on : Split) → found ≡ declared.TheVariants.Split on → Parts limit s map from count pairs pairs₁ on
  term_parts on is =
      record {
        sized = l.sized;
        untouched = front;
        splits = λ ds at. split_under (limit_in limit) (lot_count s) s ds _ _ (sym (ap node_as is) ∙ node_here ds at);
        leaves = λ ds at. term_leaves (limit_in limit) (lot_count s) s ds on (subst (λ (k : declared.Node). TermLeaves s k ds) is (l.leaves _ _ ds at.0.represents (here ds at)));
      }

  -- or none is taken, and `none_taken` is asked, of so many lots.
  module _ (is : found ≡ declared.TheVariants.Met) {n : ℕ} (lots : n ≡ lot_count s) where
    none : (ds : Decisions) → VisitedBy limit s map from count pairs ds → taken ds 1 (conditions s) ≡ no_condition
    none ds at = met-none ds (conditions s) (sym (node_here ds at) ∙ ap node_as is)

    here_too : (ds : Decisions) → VisitedBy limit s map from count pairs ds → Stands (limit_in limit) n s place ds
    here_too ds at = subst (λ (k : ℕ). Stands (limit_in limit) k s place ds) (sym lots) (here ds at)

    module _ (told : untaken.Untaken)
        (answer : (s' : List ℕ) (ds : Decisions) → Represents map pairs₁ count ds → Stands (limit_in limit) n s' place ds → taken ds 1 (conditions s') ≡ no_condition
        → untaken_as told ≡ none_taken (limit_in limit) n ds) where
      pub untaken_is : (ds : Decisions) → VisitedBy limit s map from count pairs ds → rule_of limit s ds ≡ untaken_as told
      untaken_is ds at =
          under_none (limit_in limit) (lot_count s) (conditions s) ds (none ds at)
          ∙ sym (subst (λ (k : ℕ). untaken_as told ≡ none_taken (limit_in limit) k ds) lots (answer s ds (still ds at.0).represents (here_too ds at) (none ds at)))

      -- It may be a split on a pair of classes.
      pub pair_parts : ((s' : List ℕ) (ds : Decisions) → Represents map pairs₁ count ds → Stands (limit_in limit) n s' place ds → taken ds 1 (conditions s') ≡ no_condition
          → PairLeaves (limit_in limit) n s' told ds)
          → (pairs₂ : List ℕ) → Outside pairs₁ pairs₂ (length pairs₁ - table_length) → length pairs₂ ≡ length pairs₁
          → (on : Split) → told ≡ untaken.TheVariants.Split on → Parts limit s map from count pairs pairs₂ on
      pair_parts leaves pairs₂ outside sized on split_is =
          record {
            sized = sized ∙ l.sized;
            untouched = λ i h. outside-front outside count (omega (arith, l.room, l.sized)) i h ∙ front i h;
            splits = λ ds at. untaken_is ds at ∙ ap untaken_as split_is;
            leaves = λ ds at.
                subst (λ (k : untaken.Untaken). PairLeaves (limit_in limit) (lot_count s) s k ds) split_is
                (subst (λ (k : ℕ). PairLeaves (limit_in limit) k s told ds) lots (leaves s ds (still ds at.0).represents (here_too ds at) (none ds at)));
          }
