-- What writers of sheets answer, and what they leave in the output (document 02, job 1).
use Rattle.std.specs.Prelude.{ℕ, List, Result, take}
use Rattle.buffers.specs.Written.{written}
use Rattle.sheet.specs.declared.refusal.Refusal.{Refusal}
use Rattle.sheet.specs.Answers.{Answer, refused, answered, result_answer}

-- "each answers the length it wrote"
abbrev pub written_answer : Result ℕ Refusal → Answer
written_answer = result_answer (λ length. answered length 0 0)

-- The output afterwards, where `bytes` are to be written. "Output past the packed length is untouched, by later sheet writers too"; refused: "nothing is
-- written".
abbrev pub output_after : Answer → List ℕ → List ℕ → List ℕ
output_after (refused check place) bytes out = out
output_after (answered length second third) bytes out = written bytes out

-- P holds of what was written: of the first bytes of the output as it is at exit, as many as are answered. Of a refusal nothing is said.
abbrev pub OfWritten : (List ℕ → Type 0) → Answer → List ℕ → Type 0
OfWritten P (refused check place) out' = Unit {0}
OfWritten P (answered length second third) out' = P (take length out')
