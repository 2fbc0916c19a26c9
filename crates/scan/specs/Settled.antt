-- Conditions that are settled for good, for the contracts of the inner functions; this file states nothing of document 01.
use Rattle.std.specs.Prelude.{ℕ, suc, ◌≤◌, Bool, true, false, cond, List, ◌≢◌, ◌⊎◌, ◌≡◌, eqb, ltb, length, get_or}
use Rattle.sheet.specs.Format.{condition_count}
use Rattle.sheet.specs.Conditions.{Term, same, apart, condition_at}
use Rattle.equality.specs.Meaning.{any_term}
use Rattle.equality.specs.Node.{class_of}

-- A "same" term whose lots share a class. They share one under every further decision, where lots of an "apart" term that do not share one may yet.
abbrev pub sharing : List ℕ → Term → Bool
sharing cs (same a b) = eqb (class_of cs a) (class_of cs b)
sharing cs (apart a b) = false

-- A condition with such a term is settled: no node of a path that goes on from these classes takes it.
abbrev pub settled_by : List ℕ → List Term → Bool
settled_by cs ts = any_term (sharing cs) ts

-- The settled levels of a path, one a condition and maybe more after them: 0, or the level at which the condition was seen to be settled, which is none above
-- this one.
pub record Settled (cs s levels : List ℕ) (level : ℕ) : Type 0 where
  pub low : 1 ≤ level
  pub sized : condition_count s ≤ length levels
  pub high : (i : ℕ) → get_or levels i 0 ≤ level
  pub each : (i : ℕ) → get_or levels i 0 ≢ 0 → settled_by cs (condition_at s (suc i)) ≡ true

-- Levels were written where there was none: this one or later ones.
pub record Later (levels levels' : List ℕ) (level : ℕ) : Type 0 where
  pub sized : length levels' ≡ length levels
  pub each : (i : ℕ) → (get_or levels' i 0 ≡ get_or levels i 0) ⊎ ((get_or levels i 0 ≡ 0) × (level ≤ get_or levels' i 0))

-- The levels above one are forgotten.
pub record ClearedAbove (levels levels' : List ℕ) (level : ℕ) : Type 0 where
  pub sized : length levels' ≡ length levels
  pub each : (i : ℕ) → get_or levels' i 0 ≡ cond (ltb level (get_or levels i 0)) 0 (get_or levels i 0)
