-- Lots and their numbers, by their entries and in a grouping.
use Prim.Native.Nat.{ℕ, zero, suc, ◌+◌, ◌≤◌, ◌<◌}
use mathlib.Core.List.{List}
use mathlib.Core.Path.{◌≡◌, sym, ap, ◌∙◌}
use native.Mathlib.Numerals.{add-one}
use native.Mathlib.Omega.{arith}
use lib.ListN.{length, get_or}
use Rattle.sheet.specs.Format.{lot_count, first_lot_at, second_lot_at}
use Rattle.sheet.specs.Inner.{OnChain}
use Rattle.sheet.specs.Checks.{Accepted}
use Rattle.sheet.specs.Conditions.{InLots, conditions}
use Rattle.sheet.proofs.ChainEnds.{on_sound}
use Rattle.sheet.proofs.Conditions.{conditions_in}
use Rattle.equality.specs.Evaluator.{number_in, lowest_unmet}
use Rattle.equality.proofs.Agree.{lowest_agrees}
use Rattle.evaluator.specs.Numbers.{number_at, Evaluable}

-- The lots of a record's term have an entry.
pub lots_numbered : (s numbers : List ℕ) (m : ℕ) → Evaluable s numbers m → (r : ℕ) → 1 ≤ r → OnChain s r
    → (first_lot_at s r < length numbers) × (second_lot_at s r < length numbers)
lots_numbered s numbers m can r low on =
    let fields = on_sound s can.sheet.accepted r low on in
    omega (arith, fields.first.high, fields.second.high, can.room)

-- Where lot 0's entry is 0 and each other lot's is its byte in a grouping, the entries are the numbers in the grouping,
module _ (s numbers grouping : List ℕ) (zero-entry : get_or numbers 0 0 ≡ 0)
    (bytes : (i : ℕ) → i < lot_count s → get_or numbers (i + 1) 0 ≡ get_or grouping i 0) where
  pub same_number : (lot : ℕ) → InLots (lot_count s) lot → number_at numbers lot ≡ number_in grouping lot
  same_number zero within = zero-entry
  same_number (suc i) within = ap (number_at numbers) (sym (add-one i)) ∙ bytes i (omega (arith, within.high))

  -- and the same condition is the lowest unmet one.
  pub same_unmet : Accepted s → lowest_unmet (number_at numbers) 1 (conditions s) ≡ lowest_unmet (number_in grouping) 1 (conditions s)
  same_unmet ok = lowest_agrees (InLots (lot_count s)) (number_at numbers) (number_in grouping) same_number 1 (conditions s) (conditions_in s ok)
