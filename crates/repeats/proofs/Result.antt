-- The conditions of both sheets that stay (document 02, job 4), for every rule of which conditions may be left out.
use Prim.Native.Nat.{ℕ, ◌<◌}
use mathlib.Core.Bool.{Bool, true}
use mathlib.Core.List.{List, [], ◌++◌, Sublistᴰ}
use mathlib.Core.Logic.{◌≢◌}
use mathlib.Core.Path.{◌≡◌}
use lib.ListN.{length, get_or}
use Rattle.sheet.specs.Conditions.{Term, conditions}
use Rattle.repeats.specs.Repeats.{without_repeats, merged_conditions}
use Rattle.repeats.proofs.Left.{left-append, left_part, left-unrepeated, unrepeated_at}

module _ (may_leave_out : List Term → Bool) (s t : List ℕ) where
  abbrev result : List (List Term)
  result = merged_conditions may_leave_out s t

  -- Those of the first that stay, and then those of the second that stay behind them:
  abbrev pub of_first : List (List Term)
  of_first = without_repeats may_leave_out [] (conditions s)

  abbrev pub of_second : List (List Term)
  of_second = without_repeats may_leave_out of_first (conditions t)

  pub merged_halves : result ≡ of_first ++ of_second
  unfolding merged_conditions
  merged_halves = left-append may_leave_out [] (conditions s) (conditions t)

  -- the order within each sheet is kept,
  pub order-first : Sublistᴰ of_first (conditions s)
  order-first = left_part may_leave_out [] (conditions s)

  pub order-second : Sublistᴰ of_second (conditions t)
  order-second = left_part may_leave_out of_first (conditions t)

  -- and no two conditions that may be left out are equal.
  pub merged_unequal : (i j : ℕ) → i < j → j < length result → may_leave_out (get_or result i []) ≡ true → get_or result i [] ≢ get_or result j []
  unfolding merged_conditions
  merged_unequal = unrepeated_at may_leave_out result (left-unrepeated may_leave_out [] (conditions s ++ conditions t))
