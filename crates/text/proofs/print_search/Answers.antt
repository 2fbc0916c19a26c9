-- `text::print_search` meets its contract: the search's answer has the text that the program prints, made from what the search left in its buffers.
use Prim.Native.Nat.{ℕ}
use mathlib.Core.List.{List}
use mathlib.Core.Path.{◌≡◌, ap, sym, subst, ◌∙◌}
use native.Mathlib.Omega.{arith}
use Rattle.std.specs.Prelude.{Ok}
use Rattle.search.specs.Answers.{search_answer}
use Rattle.buffers.specs.Written.{WroteFirst}
use Rattle.text.proofs.Searched.{refused-printed, printable, lots-grouped, met-printed, met-room, cannot_printed, cannot_room}
use Rattle.text.proofs.print_search.Goals as goal

-- A printed text, under another name.
reading : {before after : List ℕ} {count : ℕ} {text text' : List ℕ} → text ≡ text' → WroteFirst before after count text → WroteFirst before after count text'
reading {before} {after} {count} e p = subst (λ (t : List ℕ). WroteFirst before after count t) e p

pub met_text-requires : goal.met_text-requires
met_text-requires c =
    let answer = ap search_answer (sym (c.in-Ok-Met.is ∙ ap Ok c.in-Ok-Met.field-0-is)) ∙ c.search.ensures.answer in (
      printable c.requires.0 answer c.search.auto.store,
      omega (arith, lots-grouped c.requires.0 answer, c.search.auto.grouping),
      omega (arith, c.requires.1, met-room c.requires.0 c.search.ensures.grouping c.search.ensures.store answer),
    )

pub cannot_text-requires : goal.cannot_text-requires
cannot_text-requires c =
    let answer = ap search_answer (sym (c.in-Ok-Cannot.is ∙ ap Ok c.in-Ok-Cannot.field-0-is)) ∙ c.search.ensures.answer in (
      printable c.requires.0 answer c.search.auto.store,
      omega (arith, c.requires.1, cannot_room c.requires.0 c.search.ensures.grouping c.search.ensures.store answer),
    )

pub returns-in-Ok-Met : goal.returns-in-Ok-Met
returns-in-Ok-Met c =
    let answer = ap search_answer (sym (c.in-Ok-Met.is ∙ ap Ok c.in-Ok-Met.field-0-is)) ∙ c.search.ensures.answer in
    reading (met-printed c.requires.0 c.search.ensures.grouping c.search.ensures.store answer) c.met_text.ensures

pub returns-in-Ok-Cannot : goal.returns-in-Ok-Cannot
returns-in-Ok-Cannot c =
    let answer = ap search_answer (sym (c.in-Ok-Cannot.is ∙ ap Ok c.in-Ok-Cannot.field-0-is)) ∙ c.search.ensures.answer in
    reading (cannot_printed c.requires.0 c.search.ensures.grouping c.search.ensures.store answer) c.cannot_text.ensures

pub returns-in-Err : goal.returns-in-Err
returns-in-Err c =
    let answer = ap search_answer (sym c.in-Err.is) ∙ c.search.ensures.answer in
    reading (refused-printed c.requires.0 answer) (rw (c.check.ensures, c.place.ensures) at c.refused_text.ensures)
