-- A merge's answer, in document 02's numbers.
use Rattle.std.specs.Prelude.{ℕ, Result, Ok, Err}
use Rattle.sheet.specs.Refusals.{check_of, place_of}
use Rattle.sheet.specs.Answers.{Answer, refused, answered}
use Rattle.merge.specs.declared.MergeRefusal.{MergeRefusal}
use Rattle.merge.specs.declared.MergeRefusal.TheVariants.{First, Second, Both}

-- The length that it wrote, or check and place;
abbrev pub merged_answer : Result ℕ MergeRefusal → Answer
merged_answer (Ok length) = answered length 0 0
merged_answer (Err (First r)) = refused (check_of r) (place_of r)
merged_answer (Err (Second r)) = refused (check_of r) (place_of r)
merged_answer (Err (Both r)) = refused (check_of r) (place_of r)

-- and "a refusal from reading says which it was", the first sheet or the second; 18 and 19 speak of both.
abbrev pub sheet_refused : Result ℕ MergeRefusal → ℕ
sheet_refused (Ok length) = 0
sheet_refused (Err (First r)) = 1
sheet_refused (Err (Second r)) = 2
sheet_refused (Err (Both r)) = 0
