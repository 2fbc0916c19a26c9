-- The search's cases, in document 01's numbers.
use Rattle.std.specs.Prelude.{Result}
use Rattle.sheet.specs.declared.refusal.Refusal.{Refusal}
use Rattle.sheet.specs.Answers.{Answer, answered, result_answer}
use Rattle.search.specs.declared.Found.{Found}
use Rattle.search.specs.declared.Found.TheVariants.{Met, Cannot}

-- What a search comes to in the code.
abbrev pub Searched : Type 0
Searched = Result Found Refusal

-- "Met and cannot carry the count c of records": after 1 for met and 2 for cannot;
abbrev pub found_answer : Found → Answer
found_answer (Met count) = answered 1 count 0
found_answer (Cannot count) = answered 2 count 0

-- a refusal has its number and place, and "during the search | 9 | store full | S" is one.
abbrev pub search_answer : Searched → Answer
search_answer = result_answer found_answer
