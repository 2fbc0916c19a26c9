-- What a push, a turn and a drop make of the levels.
use Prim.Native.Nat.{ℕ, zero, suc, ◌+◌, ◌-◌, ◌*◌, ◌≤◌, ◌<◌}
use mathlib.Core.Bool.{Bool, true, false, cond}
use mathlib.Core.List.{List, [], ◌∷◌}
use mathlib.Core.Path.{◌≡◌, refl, sym, ap, subst, ◌∙◌}
use native.Mathlib.Numerals.{add-one}
use native.Mathlib.Omega.{arith}
use borrow.Author.Tests.{eqb-true, eqb-false}
use lib.Dec.{eqb}
use lib.ListN.{length, set, length-set, length-map}
use lib.Seq.{get_or-set_same, get_or-set_other}
use Rattle.sheet.specs.Format.{most_lots}
use Rattle.sheet.specs.Conditions.{Term, same, apart}
use Rattle.buffers.specs.Lists.{All}
use Rattle.equality.specs.Node.{Decisions, merged, class_of, classes, share}
use Rattle.equality.specs.Opens.{Small}
use Rattle.classes.specs.Joins.{joins}
use Rattle.classes.proofs.Joins.{joins_most}
use Rattle.refutation.specs.Refutation.{Split, decisions_of, turned}
use Rattle.path.specs.declared.Split as declared
use Rattle.path.specs.Paths.{split_length, split_in, first_lot_in, second_lot_in, path_of, split_of}
use Rattle.path.proofs.Splits.{path-length}
use Rattle.path.proofs.Within.{within-small, within_none, within_less, within_push, within_turn}
use Rattle.levels.specs.Levels.{maps_length, row, level_under, LevelOf, Leveled, Walkable}

-- ---- over decisions

-- The level under all of the decisions.
pub level_of : (maps levels : List ℕ) (ds : Decisions) → Leveled maps levels ds → LevelOf maps levels ds
unfolding Leveled
level_of maps levels [] h = h
level_of maps levels (d ∷ ds) h = h.0

-- A decision more joins no classes or two, so that no level above it is higher.
joins_rise : (d : Term) (ds : Decisions) → joins ds ≤ joins (d ∷ ds)
unfolding joins
joins_rise (apart a b) ds = omega arith
joins_rise (same a b) ds = go (share ds a b)
  where
    go : (p : Bool) → joins ds ≤ cond p (joins ds) (suc (joins ds))
    go true = omega arith
    go false = omega arith

joins_more : (ds : Decisions) (a b : ℕ) → share ds a b ≡ false → joins (same a b ∷ ds) ≡ suc (joins ds)
unfolding joins
joins_more ds a b e = rw e refl

-- What is written past the rows and places of the decisions leaves their levels as they were.
leveled_below : (maps levels maps' levels' : List ℕ) (ds : Decisions) → ((k : ℕ) → k ≤ joins ds → row maps' k ≡ row maps k)
    → ((i : ℕ) → i ≤ length ds → level_under levels' i ≡ level_under levels i) → Leveled maps levels ds → Leveled maps' levels' ds
unfolding Leveled
leveled_below maps levels maps' levels' [] rows places h =
    record { level = places 0 (omega arith) ∙ h.level; classes = rows (joins []) (omega arith) ∙ h.classes }
leveled_below maps levels maps' levels' (d ∷ ds) rows places h = (
  record {
    level = places (length (d ∷ ds)) (omega arith) ∙ h.0.level;
    classes = rows (joins (d ∷ ds)) (omega arith) ∙ h.0.classes;
  },
  leveled_below maps levels maps' levels' ds (λ k le. rows k (omega (arith, joins_rise d ds))) (λ i le. places i (omega arith)) h.1,
)

-- The levels under n decisions.
module _ (maps levels : List ℕ) (ds : Decisions) (n : ℕ) (len : length ds ≡ n) (h : Leveled maps levels ds) where
  abbrev map_of : List ℕ
  map_of = row maps (level_under levels n)

  pub level-joins : level_under levels n ≡ joins ds
  level-joins = ap (level_under levels) (sym len) ∙ (level_of maps levels ds h).level

  -- The row of their level has their classes.
  pub row-classes : map_of ≡ classes ds
  row-classes = ap (row maps) level-joins ∙ (level_of maps levels ds h).classes

  -- For lots that share no class there is a level more.
  pub level-room : (a b : ℕ) → a ≤ most_lots → b ≤ most_lots → All Small ds → eqb (class_of map_of a) (class_of map_of b) ≡ false → level_under levels n < most_lots
  level-room a b ha hb small e =
      let none : share ds a b ≡ false = ap (λ (l : List ℕ). eqb (class_of l a) (class_of l b)) (sym row-classes) ∙ e in
      let most : joins (same a b ∷ ds) ≤ most_lots = joins_most (same a b ∷ ds) ((ha, hb), small) in
      omega (arith, most, joins_more ds a b none, level-joins)

  -- A level written after theirs leaves them.
  places-before : (next i : ℕ) → i ≤ length ds → level_under (set levels (n + 1) next) i ≡ level_under levels i
  places-before next i le = get_or-set_other levels (n + 1) i next 0 (λ e. omega arith)

  place-next : (next : ℕ) → n + 1 < length levels → level_under (set levels (n + 1) next) (suc (length ds)) ≡ next
  place-next next fits =
      let at : suc (length ds) ≡ n + 1 = omega arith in
      ap (level_under (set levels (n + 1) next)) at ∙ get_or-set_same levels (n + 1) next 0 fits

  -- A pair set same, by what `join` ensures.
  pub leveled-same : (a b : ℕ) (maps' : List ℕ) (next : ℕ) → n + 1 < length levels
      → next ≡ cond (eqb (class_of map_of a) (class_of map_of b)) (level_under levels n) (level_under levels n + 1)
      → row maps' next ≡ merged (class_of map_of a) (class_of map_of b) map_of
      → ((k : ℕ) → k ≤ level_under levels n → row maps' k ≡ row maps k)
      → Leveled maps' (set levels (n + 1) next) (same a b ∷ ds)
  unfolding Leveled joins classes
  leveled-same a b maps' next fits next_is row_is others =
      let joined : next ≡ joins (same a b ∷ ds) =
      next_is
      ∙ (λ i. cond (eqb (class_of (row-classes i) a) (class_of (row-classes i) b)) (level-joins i) (level-joins i + 1))
      ∙ ap (cond (share ds a b) (joins ds)) (add-one (joins ds)) in (
        record {
          level = place-next next fits ∙ joined;
          classes = ap (row maps') (sym joined) ∙ row_is ∙ ap (λ (l : List ℕ). merged (class_of l a) (class_of l b) l) row-classes;
        },
        leveled_below maps levels maps' (set levels (n + 1) next) ds (λ k le. others k (omega (arith, level-joins))) (places-before next) h,
      )

  -- A pair set apart: the level is the one above it.
  pub leveled-apart : (a b : ℕ) → n + 1 < length levels → Leveled maps (set levels (n + 1) (level_under levels n)) (apart a b ∷ ds)
  unfolding Leveled joins classes
  leveled-apart a b fits = (
    record { level = place-next (level_under levels n) fits ∙ level-joins; classes = (level_of maps levels ds h).classes },
    leveled_below maps levels maps (set levels (n + 1) (level_under levels n)) ds (λ k le. refl) (places-before (level_under levels n)) h,
  )

-- ---- over the path

abbrev decisions : List ℕ → ℕ → Decisions
decisions path depth = decisions_of (path_of path depth)

decisions-length : (path : List ℕ) (depth : ℕ) → length (decisions path depth) ≡ depth
decisions-length path depth = simp length-map (path-length path depth)

leveled_less : (path maps levels : List ℕ) (depth less : ℕ) → less ≤ depth → Leveled maps levels (decisions path depth) → Leveled maps levels (decisions path less)
unfolding path_of Leveled
leveled_less path maps levels zero less le h = let none : 0 ≡ less = omega arith in subst (λ (k : ℕ). Leveled maps levels (decisions path k)) none h
leveled_less path maps levels (suc depth) less le h = go (eqb less (suc depth)) refl (λ lt. leveled_less path maps levels depth less lt h.1)
  where
    go : (p : Bool) → eqb less (suc depth) ≡ p → (less ≤ depth → Leveled maps levels (decisions path less)) → Leveled maps levels (decisions path less)
    go true e below = subst (λ (k : ℕ). Leveled maps levels (decisions path k)) (sym (eqb-true less (suc depth) e)) h
    go false e below = let other = eqb-false less (suc depth) e in below (omega (arith, other))

-- No split, and the first row.
pub walkable_none : (path maps levels : List ℕ) → length maps ≡ maps_length → 0 < length levels → level_under levels 0 ≡ 0 → row maps 0 ≡ classes []
    → Walkable path maps levels 0
unfolding path_of Leveled joins
walkable_none path maps levels rows places first row_is =
    record { within = within_none path; rows = rows; places = places; leveled = record { level = first; classes = row_is } }

module _ {path maps levels : List ℕ} {depth : ℕ} (w : Walkable path maps levels depth) where
  -- The map under the path has its classes, at a level that there is.
  pub top_classes : row maps (level_under levels depth) ≡ classes (decisions path depth)
  top_classes = row-classes maps levels (decisions path depth) depth (decisions-length path depth) w.leveled

  pub top_level : level_under levels depth ≤ most_lots
  top_level =
      omega (arith, level-joins maps levels (decisions path depth) depth (decisions-length path depth) w.leveled, joins_most (decisions path depth) (within-small w.within))

  pub top_room : (a b : ℕ) → a ≤ most_lots → b ≤ most_lots
      → eqb (class_of (row maps (level_under levels depth)) a) (class_of (row maps (level_under levels depth)) b) ≡ false → level_under levels depth < most_lots
  top_room a b ha hb = level-room maps levels (decisions path depth) depth (decisions-length path depth) w.leveled a b ha hb (within-small w.within)

  -- A drop, or several.
  pub walkable_less : (less : ℕ) → less ≤ depth → Walkable path maps levels less
  walkable_less less le =
      record {
        within = within_less w.within less le;
        rows = w.rows;
        places = omega (arith, w.places);
        leveled = leveled_less path maps levels depth less le w.leveled;
      }

  -- A push, by what `join` ensures of the maps and `path::push` of the path.
  pub walkable_push : split_length * depth + split_length ≤ length path → depth + 1 < length levels
      → (s : declared.Split) → s.a.0 ≤ most_lots → s.b.0 ≤ most_lots
      → (path' maps' : List ℕ) → length path' ≡ length path → length maps' ≡ length maps → (next : ℕ)
      → next
      ≡ cond (eqb (class_of (row maps (level_under levels depth)) s.a.0) (class_of (row maps (level_under levels depth)) s.b.0)) (level_under levels depth) (level_under levels depth + 1)
      → row maps' next
      ≡ merged (class_of (row maps (level_under levels depth)) s.a.0) (class_of (row maps (level_under levels depth)) s.b.0) (row maps (level_under levels depth))
      → ((k : ℕ) → k ≤ level_under levels depth → row maps' k ≡ row maps k)
      → (r : ℕ) → r ≡ depth + 1 → path_of path' r ≡ split_of s ∷ path_of path depth → Walkable path' maps' (set levels (depth + 1) next) r
  walkable_push room place s ha hb path' maps' len len' next next_is row_is others r more path-is =
      record {
        within = within_push w.within path' len room s ha hb r more path-is;
        rows = len' ∙ w.rows;
        places = simp length-set (omega arith);
        leveled = subst (λ (above : List Split). Leveled maps' (set levels (depth + 1) next) (decisions_of above)) (sym path-is)
            (leveled-same maps levels (decisions path depth) depth (decisions-length path depth) w.leveled
            s.a.0 s.b.0 maps' next place next_is row_is others);
      }

  -- A turn, by what `path::turn` ensures.
  pub walkable_turn : 0 < depth → (path' : List ℕ) → length path' ≡ length path
      → path_of path' depth ≡ turned (split_in path (depth - 1)) (first_lot_in path (depth - 1)) (second_lot_in path (depth - 1)) ∷ path_of path (depth - 1)
      → Walkable path' maps (set levels depth (level_under levels (depth - 1))) depth
  walkable_turn some path' len path-is =
      let above = walkable_less (depth - 1) (omega arith) in
      let at : depth - 1 + 1 ≡ depth = omega arith in
      record {
        within = within_turn w.within some path' len path-is;
        rows = w.rows;
        places = simp length-set w.places;
        leveled = subst (λ (above : List Split). Leveled maps (set levels depth (level_under levels (depth - 1))) (decisions_of above)) (sym path-is)
            (subst (λ (k : ℕ). Leveled maps (set levels k (level_under levels (depth - 1))) (apart (first_lot_in path (depth - 1)) (second_lot_in path (depth - 1)) ∷ decisions path (depth - 1))) at
            (leveled-apart maps levels (decisions path (depth - 1)) (depth - 1) (decisions-length path (depth - 1)) above.leveled (first_lot_in path (depth - 1)) (second_lot_in path (depth - 1)) (omega (arith, w.places))));
      }
