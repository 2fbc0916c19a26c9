-- The checker's cases, in document 01's numbers, and what they say of meaning, with a limit on the classes or without one (document 02, job 7).
use Rattle.std.specs.Prelude.{ℕ, List, Result, ◌↔◌, ◌≡◌}
use Rattle.sheet.specs.declared.refusal.Refusal.{Refusal}
use Rattle.sheet.specs.Format.{lot_count}
use Rattle.sheet.specs.Answers.{Answer, answered, result_answer}
use Rattle.equality.specs.Meaning.{Meets}
use Rattle.limit.specs.Meaning.{Limit, Keeps}
use Rattle.refutation.specs.Refutation.{RefutesUnder, Refutes}

-- The checker has no value for a list that passes.
abbrev pub checked_answer : Result (Unit {0}) Refusal → Answer
checked_answer = result_answer (λ passed. answered 0 0 0)

-- "A list passes when its walk ends there and no check has refused it."
abbrev pub PassedExactly : Result (Unit {0}) Refusal → List ℕ → List ℕ → Type 0
PassedExactly r s list = checked_answer r ≡ answered 0 0 0 ↔ Refutes s list

-- What passes proves that nobody can meet the sheet, whichever number they give lot 0, whatever the list and from whichever hand.
abbrev pub PassedMeans : Result (Unit {0}) Refusal → List ℕ → Type 0
PassedMeans r s = checked_answer r ≡ answered 0 0 0 → (f : ℕ → ℕ) → ¬ Meets f s

-- ---- with a limit, or without one

-- A list passes under a limit exactly when it refutes the sheet under it.
abbrev pub PassedExactlyUnder : Limit → Result (Unit {0}) Refusal → List ℕ → List ℕ → Type 0
PassedExactlyUnder limit r s list = checked_answer r ≡ answered 0 0 0 ↔ RefutesUnder limit s list

-- "Under a cap that 20 admits, met and unmeetable are about numberings with at most g different numbers, the hold's 0 included, for search and checker alike":
-- what passes proves that nobody who keeps the limit can meet the sheet, whichever number they give lot 0.
abbrev pub PassedMeansUnder : Limit → Result (Unit {0}) Refusal → List ℕ → Type 0
PassedMeansUnder limit r s = checked_answer r ≡ answered 0 0 0 → (f : ℕ → ℕ) → Keeps limit (lot_count s) f → ¬ Meets f s
