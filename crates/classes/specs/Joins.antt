-- How many of a path's decisions join two classes. For the contracts of the code; this file states nothing of document 01.
use Rattle.std.specs.Prelude.{ℕ, suc, cond, [], ◌∷◌}
use Rattle.sheet.specs.Conditions.{same, apart}
use Rattle.equality.specs.Node.{Decisions, share}

-- A pair set same joins two classes where its lots share none.
unfoldable pub joins : Decisions → ℕ
joins [] = 0
joins (same a b ∷ ds) = cond (share ds a b) (joins ds) (suc (joins ds))
joins (apart a b ∷ ds) = joins ds
