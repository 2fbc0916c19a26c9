-- Open "same" terms, which fall at each split: for measures and for the contracts of inner functions. This file states nothing of document 01.
use Rattle.std.specs.Prelude.{ℕ, ◌+◌, ◌≤◌, Bool, cond, ◌||◌, List, [], ◌∷◌}
use Rattle.sheet.specs.Format.{most_lots}
use Rattle.sheet.specs.Conditions.{Term, same, apart}
use Rattle.equality.specs.Node.{Decisions, share, marked_apart}

-- Both lots of a term have an entry.
abbrev pub Small : Term → Type 0
Small (same a b) = (a ≤ most_lots) × (b ≤ most_lots)
Small (apart a b) = (a ≤ most_lots) × (b ≤ most_lots)

-- ---- a pair is closed where its lots share a class or their classes are marked apart

abbrev pub closed : Decisions → ℕ → ℕ → Bool
closed ds a b = share ds a b || marked_apart ds a b

abbrev pub closed_term : Decisions → Term → Bool
closed_term ds (same a b) = closed ds a b
closed_term ds (apart a b) = closed ds a b

-- ---- how many "same" terms are open

-- By a test of when a pair is closed: a term, the terms of a condition, those of all conditions.
abbrev pub open_count : (ℕ → ℕ → Bool) → Term → ℕ
open_count shut (same a b) = cond (shut a b) 0 1
open_count shut (apart a b) = 0

unfoldable pub open_in : (ℕ → ℕ → Bool) → List Term → ℕ
open_in shut [] = 0
open_in shut (t ∷ ts) = open_count shut t + open_in shut ts

unfoldable pub open_in_all : (ℕ → ℕ → Bool) → List (List Term) → ℕ
open_in_all shut [] = 0
open_in_all shut (ts ∷ tss) = open_in shut ts + open_in_all shut tss

-- By the decisions of a path.
abbrev pub opens : Decisions → List Term → ℕ
opens ds ts = open_in (closed ds) ts

abbrev pub all_opens : Decisions → List (List Term) → ℕ
all_opens ds tss = open_in_all (closed ds) tss
