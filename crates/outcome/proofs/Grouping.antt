-- Where the search is met, the evaluator answers 0 on the grouping as the search leaves it (theorem 2, over bytes), and the grouping keeps the limit.
use Prim.Native.Nat.{ℕ, zero, suc, ◌≤◌}
use mathlib.Core.Bool.{true}
use mathlib.Core.List.{List}
use mathlib.Core.Path.{◌≡◌, sym, ap, ◌∙◌}
use native.Mathlib.Omega.{arith}
use borrow.Author.Tests.{eqb-true, eq-eqb}
use lib.ListN.{length, get_or, take, drop, length-take, length-drop, get_or-append}
use lib.Seq.{get_or-take, get_or-drop}
use Rattle.sheet.specs.Format.{most_lots, lot_count}
use Rattle.sheet.specs.Conditions.{conditions, InLots}
use Rattle.sheet.specs.Checks.{Accepted}
use Rattle.sheet.proofs.Accepted.{sound}
use Rattle.sheet.proofs.Conditions.{conditions_in}
use Rattle.equality.specs.Node.{Decisions, classes, smallest_lot}
use Rattle.equality.specs.Search.{is_met, met_decisions, grouping_bytes}
use Rattle.equality.specs.Evaluator.{number_in, lowest_unmet}
use Rattle.equality.proofs.Classes.{classes-length}
use Rattle.equality.proofs.Least.{zero_class}
use Rattle.equality.proofs.Evaluator.{lowest_met, evaluator_zero}
use Rattle.equality.proofs.Agree.{lowest_agrees}
use Rattle.buffers.specs.Written.{written}
use Rattle.limit.specs.Meaning.{Limit}
use Rattle.limit.proofs.Few.{keeps_agrees}
use Rattle.limit.proofs.Under.{under_met}
use Rattle.outcome.specs.Limited.{tree_of, GroupingMeetsUnder, ZeroGroupUnder}

pub grouping-length : (n : ℕ) (ds : Decisions) → n ≤ most_lots → length (grouping_bytes n ds) ≡ n
unfolding grouping_bytes
grouping-length n ds h = simp (length-take, length-drop) (omega (arith, classes-length ds))

-- A lot's number in the grouping is the smallest lot of its class: lot 0's, which has no byte there, is 0.
pub grouping-number : (n : ℕ) (ds : Decisions) (buffer : List ℕ) → n ≤ most_lots → (lot : ℕ) → InLots n lot
    → number_in (written (grouping_bytes n ds) buffer) lot ≡ smallest_lot ds lot
unfolding grouping_bytes
grouping-number n ds buffer h zero within = sym (zero_class ds)
grouping-number n ds buffer h (suc i) within =
    let bytes = take n (drop 1 (classes ds)) in
    get_or-append bytes (drop (length bytes) buffer) 0 i (omega (arith, within.high, grouping-length n ds h))
    ∙ get_or-take n (drop 1 (classes ds)) i 0 (omega (arith, within.high))
    ∙ get_or-drop 1 (classes ds) i 0
    ∙ ap (λ (j : ℕ). get_or (classes ds) j 0) (omega arith)

module _ (limit : Limit) (s : List ℕ) (ok : Accepted s) (met : is_met (tree_of limit s) ≡ true) (buffer : List ℕ) where
  -- The grouping that the search leaves in the buffer.
  abbrev pub left : List ℕ
  left = written (grouping_bytes (lot_count s) (met_decisions (tree_of limit s))) buffer

  left-number : (lot : ℕ) → InLots (lot_count s) lot → number_in left lot ≡ smallest_lot (met_decisions (tree_of limit s)) lot
  left-number = grouping-number (lot_count s) (met_decisions (tree_of limit s)) buffer (sound s ok).header.lots

  -- A lot's number there is 0 exactly when the lot is in lot 0's class.
  pub met_zero : ZeroGroupUnder limit s left
  met_zero lot within =
      let ds = met_decisions (tree_of limit s) in
      let number = left-number lot within in
      ((λ e. eq-eqb _ _ (sym number ∙ e ∙ sym (zero_class ds))), (λ e. number ∙ eqb-true _ _ e ∙ zero_class ds))

  -- Theorem 2.
  pub met-evaluates : lowest_unmet (number_in left) 1 (conditions s) ≡ 0
  met-evaluates =
      lowest_agrees (InLots (lot_count s)) (number_in left) (smallest_lot (met_decisions (tree_of limit s))) left-number 1 (conditions s) (conditions_in s ok)
      ∙ lowest_met (smallest_lot (met_decisions (tree_of limit s))) 1 (conditions s)
      (under_met limit (lot_count s) (conditions s) (conditions_in s ok) met).0

  -- The grouping meets the sheet, and keeps the limit.
  pub met-grouping : GroupingMeetsUnder limit left s
  met-grouping = (
    (evaluator_zero (number_in left) (conditions s)).0 met-evaluates,
    keeps_agrees limit (lot_count s) (smallest_lot (met_decisions (tree_of limit s))) (number_in left)
        (λ lot h. left-number lot (record { low = omega arith; high = h }))
        (under_met limit (lot_count s) (conditions s) (conditions_in s ok) met).1,
  )
