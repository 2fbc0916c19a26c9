-- Which conditions are left out, by their places, and where the others come to stand (document 02, job 6). A condition's place is the number of those before
-- it: condition c has place c - 1.
use Rattle.std.specs.Prelude.{ℕ, zero, suc, ◌+◌, ◌<◌, Bool, cond, ◌&&◌, List, [], ◌≡◌, length, get_or, take}
use Rattle.sheet.specs.Conditions.{Term}
use Rattle.repeats.specs.Repeats.{repeats}

-- At place i of these stands the condition ts.
pub record StandsAt (tss : List (List Term)) (i : ℕ) (ts : List Term) : Type 0 where
  pub there : i < length tss
  pub this : get_or tss i [] ≡ ts

module _ (may_leave_out : List Term → Bool) (tss : List (List Term)) where
  -- The one at place i is left out: it may be, and it has the same terms in the same order as one before it.
  unfoldable pub left_out : ℕ → Bool
  left_out i = may_leave_out (get_or tss i []) && repeats (get_or tss i []) (take i tss)

  -- How many are left out of those before place i.
  unfoldable pub left_out_before : ℕ → ℕ
  left_out_before zero = 0
  left_out_before (suc i) = left_out_before i + cond (left_out i) 1 0
