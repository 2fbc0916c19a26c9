-- An answer as four numbers, for callers in C and Rust.
use Rattle.std.specs.Prelude.{ℕ}
use Rattle.sheet.specs.Answers.{Answer, refused, answered}
use Rattle.numbers.specs.declared.Numbers.{Numbers}

-- A refusal is its check, which is at least 1, and its place; an answer is 0 and its values.
abbrev pub numbers_of : Answer → Numbers
numbers_of (refused check place) = record { check = check; first = place; second = 0; third = 0 }
numbers_of (answered first second third) = record { check = 0; first = first; second = second; third = third }

-- Of a merge: "a refusal from reading says which it was", by the number of the sheet behind the place; 0 where it is of neither.
abbrev pub merge_numbers : Answer → ℕ → Numbers
merge_numbers (refused check place) sheet = record { check = check; first = place; second = sheet; third = 0 }
merge_numbers (answered first second third) sheet = numbers_of (answered first second third)
