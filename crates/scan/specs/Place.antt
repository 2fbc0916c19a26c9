-- Where in a condition a node's terms are looked at, or after which pair of classes it is; this file states nothing of document 01.
use Rattle.std.specs.Prelude.{ℕ, ◌-◌, ◌≤◌, ◌<◌, cond, eqb, List, ◌++◌, ◌≡◌, length, set}
use Rattle.sheet.specs.Format.{head_at}
use Rattle.sheet.specs.Inner.{OnChain}
use Rattle.sheet.specs.Conditions.{Term, terms_from, condition_at, conditions}
use Rattle.equality.specs.Node.{Decisions, no_condition, takes, taken, ground, ground_or_split}
use Rattle.limit.specs.Meaning.{Limit, unlimited, up_to}
use Rattle.limit.specs.Scan.{ResumesAfter}
use Rattle.scan.specs.declared.Place.{Place}
use Rattle.scan.specs.declared.Place.TheVariants.{Scan, Within, Nowhere, After}

-- The terms from record `from` on are some of which none is open, which alone would make a ground, and then the terms from record r on.
pub record PassesTo (s : List ℕ) (from r : ℕ) (ds : Decisions) : Type 0 where
  pub on : OnChain s r
  pub passed : List Term
  pub place : terms_from s from ≡ passed ++ terms_from s r
  pub closed : (c : ℕ) → ground_or_split ds c passed ≡ ground c

-- They may be looked at within condition c, from record r on: the node of these decisions takes that condition, and none of its terms before that record is
-- open.
pub record ResumesWithin (s : List ℕ) (c r : ℕ) (ds : Decisions) : Type 0 where
  pub condition : taken ds 1 (conditions s) ≡ takes c (condition_at s c)
  pub passes : PassesTo s (head_at s c) r ds

-- They may be looked at after a pair of classes, under a limit on the classes of lots 0 to n.
abbrev pub ResumesPair : Limit → ℕ → List ℕ → ℕ → ℕ → Decisions → Type 0
ResumesPair unlimited n s x y ds = ⊥
ResumesPair (up_to g) n s x y ds = ResumesAfter g n (conditions s) x y ds

-- A visit may go on from this place, for these decisions: wherever the place says, or by a scan.
abbrev pub Resumes : Limit → ℕ → List ℕ → Place → Decisions → Type 0
Resumes limit n s Scan ds = Unit {0}
Resumes limit n s (Within c r) ds = ResumesWithin s c.0 r.0 ds
Resumes limit n s Nowhere ds = taken ds 1 (conditions s) ≡ no_condition
Resumes limit n s (After x y) ds = ResumesPair limit n s x.0 y.0 ds

-- The place of their node is known, and is this one.
abbrev pub Stands : Limit → ℕ → List ℕ → Place → Decisions → Type 0
Stands limit n s Scan ds = ⊥
Stands limit n s (Within c r) ds = ResumesWithin s c.0 r.0 ds
Stands limit n s Nowhere ds = taken ds 1 (conditions s) ≡ no_condition
Stands limit n s (After x y) ds = ResumesPair limit n s x.0 y.0 ds

-- Its record is one that a walk may be at; its pair of classes rises.
abbrev pub PlaceWithin : List ℕ → Place → Type 0
PlaceWithin s Scan = Unit {0}
PlaceWithin s (Within c r) = OnChain s r.0
PlaceWithin s Nowhere = Unit {0}
PlaceWithin s (After x y) = x.0 < y.0

-- The pair alone.
abbrev pub Rises : Place → Type 0
Rises Scan = Unit {0}
Rises (Within c r) = Unit {0}
Rises Nowhere = Unit {0}
Rises (After x y) = x.0 < y.0

-- ---- the settled levels, and the condition that a place is within

-- The condition has one,
abbrev pub HasLevel : Place → List ℕ → Type 0
HasLevel Scan levels = Unit {0}
HasLevel (Within c r) levels = (1 ≤ c.0) × (c.0 ≤ length levels)
HasLevel Nowhere levels = Unit {0}
HasLevel (After x y) levels = Unit {0}

-- or is condition 0, which is none:
abbrev pub LevelOrNone : Place → List ℕ → Type 0
LevelOrNone Scan levels = Unit {0}
LevelOrNone (Within c r) levels = c.0 ≤ length levels
LevelOrNone Nowhere levels = Unit {0}
LevelOrNone (After x y) levels = Unit {0}

-- for the first a level is noted, and for condition 0 nothing.
abbrev pub with_level : Place → ℕ → List ℕ → List ℕ
with_level Scan level levels = levels
with_level (Within c r) level levels = cond (eqb c.0 0) levels (set levels (c.0 - 1) level)
with_level Nowhere level levels = levels
with_level (After x y) level levels = levels
