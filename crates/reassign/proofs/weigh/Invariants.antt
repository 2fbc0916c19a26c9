-- `reassign::weigh`: what the conditions that the loop has passed count for is added up, before and after.
use Prim.Native.Nat.{ℕ}
use mathlib.Core.List.{List}
use Rattle.sheet.specs.Conditions.{Term}
use Rattle.evaluator.specs.Numbers.{number_at}
use Rattle.reassignment.specs.Count.{unmet_count}
use Rattle.reassignment.specs.Reassign.{naming}
use Rattle.reassignment.proofs.Summing.{Summing}
use Rattle.reassign.proofs.weigh.Given as goal

-- The unmet conditions that name a lot, by the numbers at the lots' entries.
abbrev total : List ℕ → ℕ → List (List Term) → ℕ
total numbers lot tss = unmet_count (number_at numbers) (naming lot tss)

abbrev pub invariant-loop-c : goal.invariant-loop-c
invariant-loop-c l = Summing (total l.before l.lot.0) l.sheet l.c l.was × Summing (total l.after l.lot.0) l.sheet l.c l.is
