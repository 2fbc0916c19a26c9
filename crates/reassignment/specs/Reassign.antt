-- A lot given another number (document 02, job 8; there: moving one lot): checks, answer and grouping afterwards, for any running count (there: the kept count).
use Rattle.std.specs.Prelude.{ℕ, ◌+◌, ◌-◌, Bool, cond, ◌||◌, List, [], ◌∷◌, ◌++◌, ltb, eqb, set}
use Rattle.sheet.specs.Verdicts.{Verdict, Passes, Refuses}
use Rattle.sheet.specs.Format.{lot_count, condition_count}
use Rattle.sheet.specs.Conditions.{Term, first_lot, second_lot, conditions}
use Rattle.sheet.specs.Checks.{refuses_if, first_refusal, sheet_checks}
use Rattle.sheet.specs.Answers.{Answer, answered, answer_of}
use Rattle.equality.specs.Meaning.{any_term}
use Rattle.equality.specs.Evaluator.{check8, number_in}
use Rattle.reassignment.specs.Count.{unmet_count}

-- ---- "the conditions naming that lot"

-- A term names a lot in either field, and a condition does where some term does. A condition with no term, a withdrawn one, names none.
abbrev pub term_names : ℕ → Term → Bool
term_names lot t = eqb (first_lot t) lot || eqb (second_lot t) lot

abbrev pub names : ℕ → List Term → Bool
names lot ts = any_term (term_names lot) ts

-- Each such condition stands here once, however often it names the lot.
unfoldable pub naming : ℕ → List (List Term) → List (List Term)
naming lot [] = []
naming lot (ts ∷ tss) = cond (names lot ts) (ts ∷ naming lot tss) (naming lot tss)

-- How many of them a grouping leaves unmet: "weighs only the conditions naming that lot".
abbrev pub unmet_naming : List ℕ → List ℕ → ℕ → ℕ
unmet_naming s grouping lot = unmet_count (number_in grouping) (naming lot (conditions s))

-- ---- the checks

-- "21, lot 0 or above n, place the lot"
abbrev pub ill_lot : ℕ → ℕ → Bool
ill_lot n lot = eqb lot 0 || ltb n lot

unfoldable pub check21 : List ℕ → ℕ → Verdict
check21 s lot = refuses_if (ill_lot (lot_count s) lot) 21 lot

-- "22, kept count above m or below the unmet ones named, place the kept count": those that are unmet before.
abbrev pub ill_count : ℕ → ℕ → ℕ → Bool
ill_count m before count = ltb m count || ltb count before

unfoldable pub check22 : List ℕ → List ℕ → ℕ → ℕ → Verdict
check22 s grouping count lot = refuses_if (ill_count (condition_count s) (unmet_naming s grouping lot) count) 22 count

-- "both after 8"
unfoldable pub reassign_verdict : List ℕ → List ℕ → ℕ → ℕ → Verdict
reassign_verdict s grouping count lot = first_refusal (sheet_checks s ++ check8 s grouping ∷ check21 s lot ∷ check22 s grouping count lot ∷ [])

-- ---- the outcome

-- "A move takes .. a lot and its new byte": the grouping with that byte. Lot i has byte i − 1.
abbrev pub with_value : List ℕ → ℕ → ℕ → List ℕ
with_value grouping lot value = set grouping (lot - 1) value

-- "the new count is the kept one, less those unmet before, plus those unmet after." 22 refuses a count from which these can't be taken away.
abbrev pub new_count : List ℕ → List ℕ → ℕ → ℕ → ℕ → ℕ
new_count s grouping count lot value = count - unmet_naming s grouping lot + unmet_naming s (with_value grouping lot value) lot

unfoldable pub reassign_answer : List ℕ → List ℕ → ℕ → ℕ → ℕ → Answer
reassign_answer s grouping count lot value = answer_of (reassign_verdict s grouping count lot) (answered (new_count s grouping count lot value) 0 0)

-- "It writes that one byte.", and where a check refuses, "nothing written".
abbrev pub written_if : Verdict → List ℕ → List ℕ → List ℕ
written_if Passes new old = new
written_if (Refuses check place) new old = old

unfoldable pub reassign_grouping : List ℕ → List ℕ → ℕ → ℕ → ℕ → List ℕ
reassign_grouping s grouping count lot value = written_if (reassign_verdict s grouping count lot) (with_value grouping lot value) grouping
