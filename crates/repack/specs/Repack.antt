-- Repacked sheets (document 02, jobs 1 and 2).
use Rattle.std.specs.Prelude.{ℕ, List, [], ◌∷◌, ◌++◌, ltb, length}
use Rattle.sheet.specs.Verdicts.{Verdict}
use Rattle.sheet.specs.Format.{lowest_lot, lot_count}
use Rattle.sheet.specs.Checks.{refuses_if, first_refusal, sheet_checks_with}
use Rattle.sheet.specs.Conditions.{conditions}
use Rattle.sheet.specs.Answers.{Answer, answered, answer_of}
use Rattle.canonical.specs.Canonical.{canonical, canonical_length}
use Rattle.writer.specs.Answers.{output_after}

-- "the records of condition 1 first, in chain order, then condition 2, and so on, each chain running through neighbouring numbers": the packed sheet, which is
-- the canonical one of the sheet's own lots and conditions. It has a record for each term, so "Repacking drops" the vacant ones "and keeps struck heads in
-- place".
abbrev pub repacked : List ℕ → List ℕ
repacked s = canonical (lot_count s) (conditions s)

-- "the packed length"
abbrev pub repacked_length : List ℕ → ℕ
repacked_length s = canonical_length (conditions s)

-- "16, output shorter than the packed sheet, after 7, place the packed length"
unfoldable pub check16 : List ℕ → List ℕ → Verdict
check16 s out = refuses_if (ltb (length out) (repacked_length s)) 16 (repacked_length s)

module _ (lowest : ℕ) (s out : List ℕ) where
  -- Where lots count from `lowest`: the first check that fails;
  unfoldable pub repack_verdict_with : Verdict
  repack_verdict_with = first_refusal (sheet_checks_with lowest s ++ check16 s out ∷ [])

  -- "each answers the length it wrote";
  unfoldable pub repack_answer_with : Answer
  repack_answer_with = answer_of repack_verdict_with (answered (repacked_length s) 0 0)

  -- "a writer that repacks an accepted sheet into another buffer": the buffer afterwards.
  unfoldable pub repack_out_with : List ℕ
  repack_out_with = output_after repack_answer_with (repacked s) out

-- As lots do count.
abbrev pub repack_verdict : List ℕ → List ℕ → Verdict
repack_verdict s out = repack_verdict_with lowest_lot s out

abbrev pub repack_answer : List ℕ → List ℕ → Answer
repack_answer s out = repack_answer_with lowest_lot s out

abbrev pub repack_out : List ℕ → List ℕ → List ℕ
repack_out s out = repack_out_with lowest_lot s out
