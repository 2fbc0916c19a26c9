-- The numbers of all lots, an entry for each, before a lot gets another and with it: what conditions count for by the entries is what they count for by the grouping.
use Prim.Native.Nat.{ℕ, ◌<◌}
use mathlib.Core.Bool.{Bool, true, false}
use mathlib.Core.List.{List}
use mathlib.Core.Path.{◌≡◌, refl, sym, ap, ◌∙◌}
use native.Mathlib.Omega.{arith}
use borrow.Author.Tests.{eqb-true, eqb-false}
use lib.Dec.{eqb}
use lib.ListN.{length, set}
use lib.Seq.{get_or-set_same, get_or-set_other}
use Rattle.buffers.specs.Lists.{All}
use Rattle.sheet.specs.Format.{lot_count}
use Rattle.sheet.specs.Conditions.{InLots, TermIn, conditions}
use Rattle.sheet.proofs.Conditions.{conditions_in}
use Rattle.equality.specs.Evaluator.{number_in}
use Rattle.evaluator.specs.Numbers.{number_at}
use Rattle.reassignment.specs.Count.{unmet_count}
use Rattle.reassignment.specs.Reassign.{naming, with_value}
use Rattle.reassignment.proofs.Counting.{count_agrees, naming_all}
use Rattle.reassignment.proofs.Moving.{own_number, other_number}
use Rattle.reassign.specs.Weights.{weight_all, weight_in, Reassignable}

module _ (s grouping : List ℕ) (n m lot : ℕ) (can : Reassignable s grouping n m lot) (value : ℕ) (numbers : List ℕ) (room : lot_count s < length numbers)
    (same : (x : ℕ) → InLots (lot_count s) x → number_at numbers x ≡ number_in grouping x) where
  -- With the new number in the lot's entry, and in its byte, they are the same again.
  same_after : (x : ℕ) → InLots (lot_count s) x → number_at (set numbers lot value) x ≡ number_in (with_value grouping lot value) x
  same_after x within = go (eqb x lot) refl
    where
      go : (p : Bool) → eqb x lot ≡ p → number_at (set numbers lot value) x ≡ number_in (with_value grouping lot value) x
      go true e =
          let here = eqb-true x lot e in
          ap (number_at (set numbers lot value)) here
          ∙ get_or-set_same numbers lot value 0 (omega (arith, can.lots, can.high))
          ∙ sym (own_number grouping lot value can.low (omega (arith, can.high, can.room)))
          ∙ ap (number_in (with_value grouping lot value)) (sym here)
      go false e =
          let differ = eqb-false x lot e in
          get_or-set_other numbers lot x value 0 differ ∙ same x within ∙ other_number grouping lot value can.low x differ

  counts_same : (f g : ℕ → ℕ) → ((x : ℕ) → InLots (lot_count s) x → f x ≡ g x) → unmet_count f (naming lot (conditions s)) ≡ unmet_count g (naming lot (conditions s))
  counts_same f g agree =
      count_agrees (InLots (lot_count s)) f g agree (naming lot (conditions s))
      (naming_all (All (TermIn (lot_count s))) lot (conditions s) (conditions_in s can.sheet.accepted))

  pub weights_same : weight_all (number_at numbers) (number_at (set numbers lot value)) lot (conditions s) ≡ weight_in s grouping lot value
  weights_same =
      rw (counts_same (number_at numbers) (number_in grouping) same, counts_same (number_at (set numbers lot value)) (number_in (with_value grouping lot value)) same_after)
