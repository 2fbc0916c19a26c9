-- How a search ends, for the contracts of the inner functions; this file states nothing of document 01.
use Rattle.std.specs.Prelude.{ℕ, List, ◌≡◌}
use Rattle.outcome.specs.Outcome.{Result, result_answer, grouping_after, store_after}
use Rattle.search.specs.Answers.{Searched, search_answer}
use Rattle.search.specs.Promises.{answer_case}

-- A search of this result, of a sheet with n lots, ends so: its case, with number and values, and the two buffers.
pub record EndsAs (n : ℕ) (result : Result) (grouping grouping' store store' : List ℕ) (r : Searched) : Type 0 where
  pub answered : r ≡ answer_case result
  pub numbered : search_answer r ≡ result_answer result
  pub grouped : grouping' ≡ grouping_after n result grouping
  pub stored : store' ≡ store_after result store
