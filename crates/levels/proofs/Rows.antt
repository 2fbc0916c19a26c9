-- The rows of the maps: what is read in a row, and which writes leave one as it was.
use Prim.Native.Nat.{ℕ, ◌+◌, ◌*◌, ◌≤◌, ◌<◌}
use mathlib.Core.List.{List, ◌++◌}
use mathlib.Core.Path.{◌≡◌, sym, ap, ◌∙◌}
use native.Mathlib.Omega.{arith}
use lib.ListN.{length, get_or, take, drop, length-take, length-drop, take-append-drop}
use lib.Seq.{get_or-take, get_or-drop, ext_get_or, take_at, drop_at, take-append-le, drop-append-le}
use Rattle.sheet.specs.Format.{most_lots}
use Rattle.classes.specs.Maps.{entries}
use Rattle.levels.specs.Levels.{maps_length, row}

-- A row has its entries, each at its place.
pub row-length : (maps : List ℕ) (level : ℕ) → length maps ≡ maps_length → level ≤ most_lots → length (row maps level) ≡ entries
row-length maps level len h = omega (arith, length-take entries (drop (entries * level) maps), length-drop (entries * level) maps)

pub row_at : (maps : List ℕ) (level i : ℕ) → i < entries → get_or (row maps level) i 0 ≡ get_or maps (entries * level + i) 0
row_at maps level i h = get_or-take entries (drop (entries * level) maps) i 0 h ∙ get_or-drop (entries * level) maps i 0

-- A row is known by its entries.
pub row_is : (maps : List ℕ) (level : ℕ) → length maps ≡ maps_length → level ≤ most_lots → (l : List ℕ) → length l ≡ entries
    → ((i : ℕ) → i < entries → get_or maps (entries * level + i) 0 ≡ get_or l i 0) → row maps level ≡ l
row_is maps level len h l size each =
    ext_get_or 0 (row maps level) l (row-length maps level len h ∙ sym size)
    (λ i lt. let below : i < entries = omega (arith, row-length maps level len h) in row_at maps level i below ∙ each i below)

-- ---- a row written, and those before it

-- What stands past a row's end does not matter to it,
row_prefix : (s t : List ℕ) (k : ℕ) → entries * k + entries ≤ length s → row (s ++ t) k ≡ row s k
row_prefix s t k h =
    rw (drop-append-le (entries * k) s t (omega arith))
    (take-append-le entries (drop (entries * k) s) t (omega (arith, length-drop (entries * k) s)))

-- and a row is what is put in its place.
pub row_put : (s ys t : List ℕ) (k : ℕ) → length s ≡ entries * k → length ys ≡ entries → row (s ++ (ys ++ t)) k ≡ ys
row_put s ys t k len size = rw (drop_at s (ys ++ t) (entries * k) len) (take_at ys t entries size)

module _ (maps : List ℕ) (level : ℕ) (len : length maps ≡ maps_length) (h : level < most_lots) where
  -- The maps up to the next row.
  pub above-length : length (take (entries * (level + 1)) maps) ≡ entries * (level + 1)
  above-length = omega (arith, length-take (entries * (level + 1)) maps)

  -- They keep a level's row and those before it, whatever comes next.
  pub rows_above : (t : List ℕ) (k : ℕ) → k ≤ level → row (take (entries * (level + 1)) maps ++ t) k ≡ row maps k
  rows_above t k le =
      let s = take (entries * (level + 1)) maps in
      let within : entries * k + entries ≤ length s = omega (arith, above-length) in
      row_prefix s t k within
      ∙ sym (row_prefix s (drop (entries * (level + 1)) maps) k within)
      ∙ ap (λ (l : List ℕ). row l k) (take-append-drop (entries * (level + 1)) maps)

-- ---- a row that is copied

module _ (maps maps' : List ℕ) (level : ℕ) (len : length maps ≡ maps_length) (len' : length maps' ≡ maps_length) where
  -- What is written past a row's end leaves it and those before it as they were,
  pub rows_before : level ≤ most_lots → ((j : ℕ) → j < entries * level + entries → get_or maps' j 0 ≡ get_or maps j 0) → (k : ℕ) → k ≤ level → row maps' k ≡ row maps k
  rows_before h before k le =
      row_is maps' k len' (omega arith) (row maps k) (row-length maps k len (omega arith))
      (λ i lt. before (entries * k + i) (omega arith) ∙ sym (row_at maps k i lt))

  -- and a row whose entries are those of another is that.
  pub row_copied : level < most_lots
      → ((i : ℕ) → i < entries → get_or maps' (entries * level + entries + i) 0 ≡ get_or maps (entries * level + i) 0)
      → row maps' (level + 1) ≡ row maps level
  row_copied h each =
      row_is maps' (level + 1) len' (omega arith) (row maps level) (row-length maps level len (omega arith))
      (λ i lt.
      let at : entries * (level + 1) + i ≡ entries * level + entries + i = omega arith in
      rw at (each i lt ∙ sym (row_at maps level i lt)))
