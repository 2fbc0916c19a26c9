-- `lihumbay::lihumbay_merge`: the numbers of the answer, and the output as merging leaves it.
use Prim.Native.Nat.{ℕ, max}
use mathlib.Core.List.{List}
use mathlib.Core.Path.{◌≡◌, ap₂, ◌∙◌}
use Rattle.sheet.specs.Format.{lot_count}
use Rattle.sheet.specs.Checks.{Accepted}
use Rattle.sheet.specs.Conditions.{conditions}
use Rattle.repack.specs.Repack.{repacked}
use Rattle.repeats.specs.Repeats.{has_terms, merged_conditions}
use Rattle.merge.specs.Answers.{merged_answer, sheet_refused}
use Rattle.merge.specs.Promises.{MeetsBoth, Placed}
use Rattle.numbers.specs.Answers.{merge_numbers}
use Rattle.lihumbay.proofs.Promised.{zero_merged, merge_first}
use Rattle.lihumbay.proofs.lihumbay_merge.Goals as goal

pub returns : goal.returns
returns c =
    let begin = c.args in
    let s = begin.first.now in
    let t = begin.second.now in
    let out' = c.merge.new.out in
    let a = merged_answer c.merge.result in
    let sheet = sheet_refused c.merge.result in
    let first = merge_first s t begin.out.now a c.merge.ensures.answer in record {
      answer = c.from.ensures ∙ ap₂ merge_numbers c.merge.ensures.answer c.merge.ensures.sheet;
      output = c.merge.ensures.output;
      accepted = rw c.from.ensures (zero_merged (λ (w : List ℕ). Accepted w) out' a sheet first c.merge.ensures.accepted);
      packed = rw c.from.ensures (zero_merged (λ (w : List ℕ). repacked w ≡ w) out' a sheet first c.merge.ensures.packed);
      lots = rw c.from.ensures (zero_merged (λ (w : List ℕ). lot_count w ≡ max (lot_count s) (lot_count t)) out' a sheet first c.merge.ensures.lots);
      conditions = rw c.from.ensures (zero_merged (λ (w : List ℕ). conditions w ≡ merged_conditions has_terms s t) out' a sheet first c.merge.ensures.conditions);
      meets = rw c.from.ensures (zero_merged (λ (w : List ℕ). MeetsBoth w s t) out' a sheet first c.merge.ensures.meets);
      places = rw c.from.ensures (zero_merged (λ (w : List ℕ). Placed w s t) out' a sheet first c.merge.ensures.places);
    }
