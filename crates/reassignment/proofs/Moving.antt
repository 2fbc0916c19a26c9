-- "For every list of moves from a counted start, buffers otherwise untouched, the kept count equals the count over all conditions.": of one reassignment, and of
-- every list of them.
use Prim.Native.Nat.{ℕ, zero, suc, ◌+◌, ◌-◌, ◌≤◌}
use mathlib.Core.List.{List, [], ◌∷◌}
use mathlib.Core.Logic.{◌≢◌}
use mathlib.Core.Path.{◌≡◌, refl, sym, ap, ◌∙◌}
use native.Mathlib.Omega.{arith}
use lib.ListN.{length, get_or, drop, length-set}
use lib.Seq.{get_or-set_same, get_or-set_other, drop-set-lt}
use Rattle.sheet.specs.Verdicts.{Verdict, Passes, Refuses}
use Rattle.sheet.specs.Format.{lot_count, condition_count}
use Rattle.sheet.specs.Conditions.{conditions}
use Rattle.sheet.specs.Answers.{refused, answered, answer_of}
use Rattle.equality.specs.Evaluator.{check8, grouping_verdict, grouping_verdict_with, number_in}
use Rattle.reassignment.specs.Count.{unmet_count, count_answer}
use Rattle.reassignment.specs.Reassign.{unmet_naming, check22, reassign_verdict, with_value, new_count, reassign_answer, written_if, reassign_grouping}
use Rattle.reassignment.specs.Moves.{Move, Running, count_after, moved, moved_all, Counted}
use Rattle.reassignment.proofs.Counting.{sheet_most, counted, counts}
use Rattle.reassignment.proofs.Weighing.{naming_most, off_by_as_much, new_right}
use Rattle.reassignment.proofs.Checking.{lot-within, within-lot, count-within, within_count, count-passed, lot-passed, all_passed}

-- ---- one lot's number

-- The lot has the new number,
pub own_number : (grouping : List ℕ) (lot value : ℕ) → 1 ≤ lot → lot ≤ length grouping → number_in (with_value grouping lot value) lot ≡ value
own_number grouping zero value low high = absurd (omega arith)
own_number grouping (suc i) value low high =
    let place : suc i - 1 ≡ i = omega arith in rw place (get_or-set_same grouping i value 0 (omega arith))

-- and each other lot, lot 0 too, the number that it had.
pub other_number : (grouping : List ℕ) (lot value : ℕ) → 1 ≤ lot → (x : ℕ) → x ≢ lot → number_in grouping x ≡ number_in (with_value grouping lot value) x
other_number grouping lot value low zero differ = refl
other_number grouping lot value low (suc i) differ = sym (get_or-set_other grouping (lot - 1) i value 0 (λ e. differ (omega arith)))

module _ (s : List ℕ) where
  -- No check looks at the numbers.
  value_passes : (grouping : List ℕ) (lot value : ℕ) → grouping_verdict s (with_value grouping lot value) ≡ grouping_verdict s grouping
  unfolding grouping_verdict_with check8
  value_passes grouping lot value = rw (length-set grouping (lot - 1) value)

  -- ---- one reassignment from a right count

  module _ (grouping : List ℕ) (count : ℕ) (right : Counted s (record { grouping = grouping; count = count })) where
    -- 22 never refuses it,
    pub right_never_22 : (lot : ℕ) → check22 s grouping count lot ≡ Passes
    right_never_22 lot =
        let e = (counted s grouping count right).1 in
        count-passed s grouping count lot
        (within_count (condition_count s) (unmet_naming s grouping lot) count (omega (arith, sheet_most s (number_in grouping)))
        (omega (arith, naming_most (number_in grouping) lot (conditions s))))

    -- and the new count is the counting service's answer to the grouping with the new number,
    right_count : (lot value : ℕ) → 1 ≤ lot → count_answer s (with_value grouping lot value) ≡ answered (new_count s grouping count lot value) 0 0
    right_count lot value low =
        let (long, e) = counted s grouping count right in
        counts s (with_value grouping lot value) (value_passes grouping lot value ∙ long)
        ∙ ap (λ (c : ℕ). answered c 0 0)
        (sym (new_right lot (number_in grouping) (number_in (with_value grouping lot value)) (other_number grouping lot value low) (conditions s) count e))

    -- so that every lot of 1 to n can be reassigned, the answer is that count, and that one byte is written.
    pub right_answer : (lot value : ℕ) → 1 ≤ lot → lot ≤ lot_count s
        → (reassign_answer s grouping count lot value ≡ count_answer s (with_value grouping lot value))
        × (reassign_grouping s grouping count lot value ≡ with_value grouping lot value)
    unfolding reassign_answer reassign_grouping
    right_answer lot value low high =
        let v : reassign_verdict s grouping count lot ≡ Passes =
        lot-passed s grouping count lot (counted s grouping count right).0 (within-lot (lot_count s) lot low high) ∙ right_never_22 lot in
        (rw v (sym (right_count lot value low)), rw v)

  -- One call, refused or not, leaves a right count right.
  pub moved-counted : (at : Running) (move : Move) → Counted s at → Counted s (moved s at move)
  unfolding reassign_answer reassign_grouping
  moved-counted at move right = go (reassign_verdict s at.grouping at.count move.lot) refl
    where
      go : (v : Verdict) → reassign_verdict s at.grouping at.count move.lot ≡ v
          → count_answer s (written_if v (with_value at.grouping move.lot move.value) at.grouping)
          ≡ answered (count_after (answer_of v (answered (new_count s at.grouping at.count move.lot move.value) 0 0)) at.count) 0 0
      go Passes e =
          let within = lot-within (lot_count s) move.lot (all_passed s at.grouping at.count move.lot e).1 in
          right_count at.grouping at.count right move.lot move.value within.0
      go (Refuses check place) e = right

  -- ---- a list of them

  -- From a counted start the counting service answers the running count, after every list of reassignments, refused ones among them:
  pub all_counted : (at : Running) (moves : List Move) → Counted s at → Counted s (moved_all s at moves)
  unfolding moved_all
  all_counted at [] right = right
  all_counted at (move ∷ moves) right = all_counted (moved s at move) moves (moved-counted at move right)

  -- the running count is the count over all conditions, of the grouping as it then is.
  pub all_right : (at : Running) (moves : List Move) → Counted s at
      → (moved_all s at moves).count ≡ unmet_count (number_in (moved_all s at moves).grouping) (conditions s)
  all_right at moves right = (counted s (moved_all s at moves).grouping (moved_all s at moves).count (all_counted at moves right)).1

  -- ---- whatever the count

  module _ (grouping : List ℕ) (count lot value : ℕ) where
    -- A refused one changes nothing.
    pub refused_nothing : {check place : ℕ} → reassign_verdict s grouping count lot ≡ Refuses check place
        → (reassign_answer s grouping count lot value ≡ refused check place) × (reassign_grouping s grouping count lot value ≡ grouping)
    unfolding reassign_answer reassign_grouping
    refused_nothing e = (rw e, rw e)

    -- A wrong count that 22 admits stays off by as much as it was: the new count and the right one before are together the count and the right one after.
    pub wrong_stays : reassign_verdict s grouping count lot ≡ Passes
        → new_count s grouping count lot value + unmet_count (number_in grouping) (conditions s)
        ≡ count + unmet_count (number_in (with_value grouping lot value)) (conditions s)
    wrong_stays e =
        let (long, lot_in, count-in) = all_passed s grouping count lot e in
        off_by_as_much lot (number_in grouping) (number_in (with_value grouping lot value)) (other_number grouping lot value (lot-within (lot_count s) lot lot_in).0)
        (conditions s) count (count-within (condition_count s) (unmet_naming s grouping lot) count count-in).1

    -- Every byte but the lot's is as it was, those past the lots' too,
    pub other_bytes : (i : ℕ) → i ≢ lot - 1 → get_or (reassign_grouping s grouping count lot value) i 0 ≡ get_or grouping i 0
    unfolding reassign_grouping
    other_bytes i differ = go (reassign_verdict s grouping count lot)
      where
        go : (v : Verdict) → get_or (written_if v (with_value grouping lot value) grouping) i 0 ≡ get_or grouping i 0
        go Passes = get_or-set_other grouping (lot - 1) i value 0 differ
        go (Refuses check place) = refl

    -- and so is the length.
    pub same_length : length (reassign_grouping s grouping count lot value) ≡ length grouping
    unfolding reassign_grouping
    same_length = go (reassign_verdict s grouping count lot)
      where
        go : (v : Verdict) → length (written_if v (with_value grouping lot value) grouping) ≡ length grouping
        go Passes = length-set grouping (lot - 1) value
        go (Refuses check place) = refl

    past_lots : drop (lot_count s) (reassign_grouping s grouping count lot value) ≡ drop (lot_count s) grouping
    unfolding reassign_grouping
    past_lots = go (reassign_verdict s grouping count lot) refl
      where
        go : (v : Verdict) → reassign_verdict s grouping count lot ≡ v
            → drop (lot_count s) (written_if v (with_value grouping lot value) grouping) ≡ drop (lot_count s) grouping
        go Passes e =
            let within = lot-within (lot_count s) lot (all_passed s grouping count lot e).1 in
            drop-set-lt (lot_count s) grouping (lot - 1) value (omega arith)
        go (Refuses check place) e = refl

  -- No list of reassignments touches a byte past the lots'.
  pub all_past_lots : (at : Running) (moves : List Move)
      → (length (moved_all s at moves).grouping ≡ length at.grouping)
      × (drop (lot_count s) (moved_all s at moves).grouping ≡ drop (lot_count s) at.grouping)
  unfolding moved_all
  all_past_lots at [] = (refl, refl)
  all_past_lots at (move ∷ moves) =
      let (long, past) = all_past_lots (moved s at move) moves in (
        long ∙ same_length at.grouping at.count move.lot move.value,
        past ∙ past_lots at.grouping at.count move.lot move.value,
      )
