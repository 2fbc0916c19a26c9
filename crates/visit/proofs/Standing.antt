-- The path of a visit, as its map and its pairs represent it: what each branch of a split makes of it, and what is open, which falls.
use Prim.Native.Nat.{ℕ, zero, suc, ◌+◌, ◌*◌, ◌≤◌, ◌<◌}
use mathlib.Core.Bool.{Bool, false, ◌||◌}
use mathlib.Core.List.{List, [], ◌∷◌}
use mathlib.Core.Path.{◌≡◌, refl, sym, ap, ap₂, fun_ext, ◌∙◌}
use native.Mathlib.Omega.{arith}
use Rattle.std.specs.Prelude.{Option}
use borrow.Author.Tests.{ne_eqb}
use lib.Dec.{eqb}
use lib.ListN.{length, get_or, set, take, replicate, length-set, length-replicate}
use lib.Seq.{length-take-le}
use Rattle.sheet.specs.Format.{most_lots, lot_count, condition_count}
use Rattle.sheet.specs.Checks.{Accepted}
use Rattle.sheet.specs.Conditions.{same, apart, condition_at, conditions}
use Rattle.sheet.proofs.Accepted.{sound}
use Rattle.sheet.proofs.Conditions.{conditions_in}
use Rattle.equality.specs.Node.{Decisions, classes, merged, class_of, marked, split}
use Rattle.equality.proofs.Least.{least}
use Rattle.equality.proofs.Node.{taken-apart}
use Rattle.limit.specs.Meaning.{Limit, unlimited, up_to}
use Rattle.limit.specs.Rule.{node_under}
use Rattle.limit.specs.Search.{open_by}
use Rattle.limit.specs.Scan.{limit_in}
use Rattle.limit.proofs.Under.{split_open, under_branches}
use Rattle.limit.proofs.Resumes.{under_takes}
use Rattle.classes.specs.declared.Classes.{Classes}
use Rattle.classes.specs.Pairs.{set_apart, with_pair, PairsWithin, Untouched}
use Rattle.classes.proofs.Path.{pair_leaves, new_represents, join_represents, apart-represents, below_represents, represented_within, smallest_says, marked-says}
use Rattle.classes.proofs.Maps.{class_map}
use Rattle.marks.specs.Marks.{table_length}
use Rattle.scan.specs.declared.Place.{Place}
use Rattle.scan.specs.declared.Place.TheVariants.{Scan, Within, Nowhere, After}
use Rattle.node.specs.declared.Split.{Split}
use Rattle.scan.specs.Place.{ResumesPair, Resumes, PlaceWithin, Rises, HasLevel, with_level}
use Rattle.node.specs.Found.{Markable, SplitLeaves}
use Rattle.scan.specs.Settled.{Settled, Later}
use Rattle.scan.proofs.Settling.{taken-number, joined_settled, same-settled, same_later, later_none, later_through}
use Rattle.visit.specs.Limits.{pairs_room}
use Rattle.visit.specs.Visited.{rule_of, open_left, Standing, LevelWithin}
use Rattle.classes.specs.Maps.{ClassesWithin}
use Rattle.visit.proofs.Limits.{opens-within, pairs_enough, pairs-count, levels_enough, level_fits}

-- ---- what is open, counted by the map and the pairs: the measure of the visits

-- The lots share an entry, or their entries are marked apart by the pairs.
abbrev shut_by : List ℕ → List ℕ → ℕ → ℕ → ℕ → Bool
shut_by lots pairs count a b =
    eqb (class_of lots a) (class_of lots b) || marked lots (set_apart pairs count) (class_of lots a) (class_of lots b)

pub open_by_map : Option ℕ → List ℕ → List ℕ → List ℕ → ℕ → ℕ
open_by_map limit s lots pairs count = open_by (limit_in limit) (lot_count s) (conditions s) (shut_by lots pairs count)

-- ---- the path

-- Where a visit may go on is within the sheet,
pub place-within : (limit : Limit) (s : List ℕ) (from : Place) (ds : Decisions) → Resumes limit (lot_count s) s from ds → PlaceWithin s from
place-within limit s Scan ds resumes = tt
place-within limit s (Within c r) ds resumes = resumes.passes.on
place-within limit s Nowhere ds resumes = tt
place-within limit s (After x y) ds resumes = go limit resumes
  where
    go : (l : Limit) → ResumesPair l (lot_count s) s x.0 y.0 ds → x.0 < y.0
    go unlimited w = absurd w
    go (up_to g) w = w.rises

-- and its pair rises.
pub within-rises : (s : List ℕ) (from : Place) → PlaceWithin s from → Rises from
within-rises s Scan within = tt
within-rises s (Within c r) within = tt
within-rises s Nowhere within = tt
within-rises s (After x y) within = within

-- The condition that a split's apart branch goes on in is one of the sheet's, so it has a level;
pub has-level : (limit : Limit) (n : ℕ) (s levels : List ℕ) (ds : Decisions) → condition_count s ≤ length levels → (p : Place) → Resumes limit n s p ds → HasLevel p levels
has-level limit n s levels ds sized Scan w = tt
has-level limit n s levels ds sized (Within c r) w =
    let number = taken-number ds s c.0 (condition_at s c.0) w.condition in
    (number.0, omega (arith, number.1, sized))
has-level limit n s levels ds sized Nowhere w = tt
has-level limit n s levels ds sized (After x y) w = tt

-- in the same branch, which is of the next level, it is settled;
module _ (limit : Limit) (n : ℕ) (s : List ℕ) (on : Split) (ds : Decisions) (levels : List ℕ) (level : ℕ) (l : Settled (classes ds) s levels level)
    (e : node_under limit n (conditions s) ds ≡ split on.a.0 on.b.0) where
  abbrev joined : List ℕ
  joined = merged (class_of (classes ds) on.a.0) (class_of (classes ds) on.b.0) (classes ds)

  settled-both : (p : Place) → Resumes limit n s p (apart on.a.0 on.b.0 ∷ ds)
      → Settled joined s (with_level p (level + 1) levels) (level + 1) × Later levels (with_level p (level + 1) levels) (level + 1)
  settled-both Scan w = (joined_settled (classes ds) s levels on.a.0 on.b.0 level l, later_none levels (level + 1))
  settled-both (Within c r) w =
      let taken-first = sym (taken-apart ds on.a.0 on.b.0 1 (conditions s)) ∙ w.condition in
      let here = sym (under_takes limit n (conditions s) ds c.0 (condition_at s c.0) taken-first) ∙ e in
      let some : eqb c.0 0 ≡ false = ne_eqb c.0 0 (λ none. omega (arith, none, (taken-number ds s c.0 (condition_at s c.0) taken-first).0)) in
      rw some (
        same-settled ds s levels c.0 on.a.0 on.b.0 level l here taken-first,
        same_later ds s levels c.0 on.a.0 on.b.0 level l here taken-first,
      )
  settled-both Nowhere w = (joined_settled (classes ds) s levels on.a.0 on.b.0 level l, later_none levels (level + 1))
  settled-both (After x y) w = (joined_settled (classes ds) s levels on.a.0 on.b.0 level l, later_none levels (level + 1))

-- and whatever that branch writes, the levels above this one are later ones.
module _ (limit : Limit) (n : ℕ) (s : List ℕ) (on : Split) (ds : Decisions) (levels : List ℕ) (level : ℕ) (cs : List ℕ) (says : cs ≡ classes ds)
    (l : Settled cs s levels level) (e : node_under limit n (conditions s) ds ≡ split on.a.0 on.b.0) (w : SplitLeaves limit n s on ds) where
  pub under_settled : (cs' : List ℕ) → cs' ≡ merged (class_of cs on.a.0) (class_of cs on.b.0) cs → Settled cs' s (with_level on.apart (level + 1) levels) (level + 1)
  under_settled cs' joined' = rw joined' (rw says (settled-both limit n s on ds levels level (rw says at l) e on.apart w).0)

  pub under_later : (levels₁ levels' : List ℕ) → levels₁ ≡ with_level on.apart (level + 1) levels → Later levels₁ levels' (level + 1) → Later levels levels' (level + 1)
  under_later levels₁ levels' written later =
      later_through levels levels₁ levels' (level + 1) (rw written (settled-both limit n s on ds levels level (rw says at l) e on.apart w).1) later

-- With no decision no condition is settled.
none-settled : (n m i : ℕ) → ◌≡◌ {A = ℕ} (get_or (take m (replicate n 0)) i 0) 0
none-settled zero zero i = refl
none-settled zero (suc m) i = refl
none-settled (suc n) zero i = refl
none-settled (suc n) (suc m) zero = refl
none-settled (suc n) (suc m) (suc i) = none-settled n m i

pub start_settled : (cs s : List ℕ) (n m : ℕ) → m ≤ n → condition_count s ≤ m → Settled cs s (take m (replicate n 0)) 1
start_settled cs s n m h e =
    record {
      low = omega arith;
      sized = omega (arith, length-take-le {A = ℕ} m (replicate n 0) (simp length-replicate h), e);
      high = λ i. omega (arith, none-settled n m i);
      each = λ i some. absurd (some (none-settled n m i));
    }

pub start_level : (limit : Option ℕ) (s : List ℕ) → Accepted s → LevelWithin limit s 1 []
start_level limit s ok = omega (arith, opens-within (limit_in limit) s ok [], levels_enough (limit_in limit))

-- No decision, and all the room that there is for pairs and a table.
pub start_standing : (limit : Option ℕ) (s : List ℕ) → Accepted s → (map : Classes) (pairs : List ℕ) → map.lots ≡ classes []
    → length pairs ≡ pairs_room (limit_in limit) + table_length → Standing limit s map pairs 0 []
start_standing limit s ok map pairs new len =
    record {
      represents = new_represents map pairs new;
      small = tt;
      room = omega (arith, len, opens-within (limit_in limit) s ok [], pairs_enough (limit_in limit));
      size = omega (arith, len);
    }

module _ {limit : Option ℕ} {s : List ℕ} {map : Classes} {pairs : List ℕ} {count : ℕ} {ds : Decisions} (st : Standing limit s map pairs count ds) where
  -- The map and the pairs count what is open under the path.
  pub counted : open_by_map limit s map.lots pairs count ≡ open_left limit s ds
  unfolding open_by_map
  counted =
      ap (open_by (limit_in limit) (lot_count s) (conditions s))
      (fun_ext
      (λ a. fun_ext
      (λ b. ap₂ ◌||◌ (ap₂ eqb (smallest_says st.represents a) (smallest_says st.represents b)) (marked-says st.represents a b))))

  pairs-within : PairsWithin pairs count
  pairs-within = represented_within st.represents st.small (omega (arith, st.room))

  pub markable : Markable map pairs count
  markable = record { entries = rw st.represents.lots (class_map ds); within = pairs-within; room = omega (arith, st.room) }

  pub entries-within : ClassesWithin map.lots
  entries-within lot h = omega (arith, smallest_says st.represents lot, least ds lot)

  -- Whatever is written after the pairs, the path stands so.
  pub below_standing : (pairs' : List ℕ) → length pairs' ≡ length pairs → Untouched pairs pairs' count → Standing limit s map pairs' count ds
  below_standing pairs' len untouched =
      record {
        represents = below_represents st.represents pairs' untouched;
        small = st.small;
        room = omega (arith, st.room);
        size = omega (arith, st.size);
      }

  module _ (ok : Accepted s) (a b : ℕ) (e : rule_of limit s ds ≡ split a b) where
    pub split-small : (a ≤ most_lots) × (b ≤ most_lots)
    split-small =
        let pair = (split_open (limit_in limit) (lot_count s) (conditions s) (conditions_in s ok) ds a b e).within in
        omega (arith, pair.0.high, pair.1.high, (sound s ok).header.lots)

    same_falls : open_left limit s (same a b ∷ ds) < open_left limit s ds
    same_falls = (under_branches (limit_in limit) (lot_count s) (conditions s) (conditions_in s ok) ds tt a b e).same_falls

    apart_falls : open_left limit s (apart a b ∷ ds) < open_left limit s ds
    apart_falls = (under_branches (limit_in limit) (lot_count s) (conditions s) (conditions_in s ok) ds tt a b e).apart_falls

    -- The same branch, by what `join` ensures;
    pub same-standing : (map' : Classes) → map'.lots ≡ merged (class_of map.lots a) (class_of map.lots b) map.lots
        → Standing limit s map' pairs count (same a b ∷ ds)
    same-standing map' joined =
        record {
          represents = join_represents st.represents map' a b joined;
          small = (split-small, st.small);
          room = omega (arith, st.room, same_falls);
          size = st.size;
        }

    pub same-level : (level : ℕ) → LevelWithin limit s level ds → LevelWithin limit s (level + 1) (same a b ∷ ds)
    same-level level h = omega (arith, h, same_falls)

    pub apart-level : (level : ℕ) → LevelWithin limit s level ds → LevelWithin limit s level (apart a b ∷ ds)
    apart-level level h = omega (arith, h, apart_falls)

    -- a level has room,
    pub level-room : (level : ℕ) → LevelWithin limit s level ds → level + 1 < 65536
    level-room level h = omega (arith, h, same_falls, level_fits)

    -- there is a number more,
    pub count_room : count + 1 < 4294967296
    count_room = omega (arith, st.room, st.size, apart_falls, pairs-count (limit_in limit))

    -- there is room for a pair more,
    pub pair_room : 2 * count + 2 ≤ length pairs
    pair_room = omega (arith, st.room, apart_falls)

    -- and the apart branch, whatever the same branch wrote after the pairs, by what `set_apart` ensures.
    pub apart-standing : (pairs' pairs'' : List ℕ) → length pairs' ≡ length pairs → Untouched pairs pairs' count → pairs'' ≡ with_pair pairs' count a b
        → Standing limit s map pairs'' (count + 1) (apart a b ∷ ds)
    apart-standing pairs' pairs'' len untouched set =
        rw set
        (record {
          represents = apart-represents (below_standing pairs' len untouched).represents a b (omega (arith, pair_room));
          small = (split-small, st.small);
          room = simp length-set (omega (arith, st.room, apart_falls));
          size = simp length-set (omega (arith, st.size));
        })

-- Whatever is written after the pairs, as much is open.
pub below_same : {limit : Option ℕ} {s : List ℕ} {map : Classes} {pairs : List ℕ} {count : ℕ} {ds : Decisions} → Standing limit s map pairs count ds
    → (pairs' : List ℕ) → length pairs' ≡ length pairs → Untouched pairs pairs' count → open_by_map limit s map.lots pairs' count ≡ open_by_map limit s map.lots pairs count
below_same st pairs' len untouched = counted (below_standing st pairs' len untouched) ∙ sym (counted st)

-- Less is open in each branch.
module _ {limit : Option ℕ} {s : List ℕ} {map : Classes} {pairs : List ℕ} {count : ℕ} {ds : Decisions} (st : Standing limit s map pairs count ds)
    (ok : Accepted s) (a b : ℕ) (e : rule_of limit s ds ≡ split a b) where
  pub same_less : (map' : Classes) → map'.lots ≡ merged (class_of map.lots a) (class_of map.lots b) map.lots
      → open_by_map limit s map'.lots pairs count < open_by_map limit s map.lots pairs count
  same_less map' joined = omega (arith, counted (same-standing st ok a b e map' joined), counted st, same_falls st ok a b e)

  pub apart_less : (pairs' pairs'' : List ℕ) → length pairs' ≡ length pairs → Untouched pairs pairs' count → pairs'' ≡ with_pair pairs' count a b
      → open_by_map limit s map.lots pairs'' (count + 1) < open_by_map limit s map.lots pairs count
  apart_less pairs' pairs'' len untouched set =
      omega (arith, counted (apart-standing st ok a b e pairs' pairs'' len untouched set), counted st, apart_falls st ok a b e)

-- The same branch, the pair and the apart branch leave the pairs before them.
pub untouched_through : (pairs pairs' pairs'' pairs''' : List ℕ) (count a b : ℕ) → Untouched pairs pairs' count → pairs'' ≡ with_pair pairs' count a b → Untouched pairs'' pairs''' (count + 1)
    → Untouched pairs pairs''' count
untouched_through pairs pairs' pairs'' pairs''' count a b same_branch set apart-branch i h =
    apart-branch i (omega arith)
    ∙ ap (λ (l : List ℕ). get_or l i 0) set
    ∙ pair_leaves pairs' count a b i h
    ∙ same_branch i h
