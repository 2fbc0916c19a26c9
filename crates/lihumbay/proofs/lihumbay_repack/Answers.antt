-- `lihumbay::lihumbay_repack`: the numbers of the answer, and the output as repacking leaves it.
use Prim.Native.Nat.{ℕ}
use mathlib.Core.List.{List}
use mathlib.Core.Path.{◌≡◌, ap, ◌∙◌}
use Rattle.writer.specs.Answers.{written_answer}
use Rattle.repack.specs.Repack.{repacked}
use Rattle.repack.specs.Promises.{Alike, ServedAlike}
use Rattle.numbers.specs.Answers.{numbers_of}
use Rattle.lihumbay.proofs.Promised.{zero_written, repack_first}
use Rattle.lihumbay.proofs.lihumbay_repack.Goals as goal

pub returns : goal.returns
returns c =
    let begin = c.args in
    let s = begin.sheet.now in
    let out' = c.repack.new.out in
    let a = written_answer c.repack.result in
    let first = repack_first s begin.out.now a c.repack.ensures.answer in record {
      answer = c.from.ensures ∙ ap numbers_of c.repack.ensures.answer;
      output = c.repack.ensures.output;
      says = rw c.from.ensures (zero_written (λ (w : List ℕ). Alike w s) out' a first c.repack.ensures.says);
      again = rw c.from.ensures (zero_written (λ (w : List ℕ). repacked w ≡ w) out' a first c.repack.ensures.again);
      alike = rw c.from.ensures (zero_written (λ (w : List ℕ). ServedAlike w s) out' a first c.repack.ensures.alike);
    }
