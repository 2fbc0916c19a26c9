-- The search in the printing program's buffers: each of its answers has the text that the program prints, made from what it left in the buffers.
use Prim.Native.Nat.{ℕ, ◌≤◌}
use mathlib.Core.List.{List}
use mathlib.Core.Path.{◌≡◌, refl, ap, sym, ◌∙◌}
use native.Mathlib.Omega.{arith}
use lib.ListN.{length}
use Rattle.sheet.specs.Format.{lot_count}
use Rattle.sheet.specs.Conditions.{conditions}
use Rattle.sheet.specs.Checks.{sheet_verdict}
use Rattle.sheet.specs.Answers.{refused, answered}
use Rattle.sheet.proofs.Accepted.{header-whole, sound}
use Rattle.equality.specs.Search.{search_tree}
use Rattle.outcome.specs.Outcome.{Result, Outcome, met_result, cannot_result, result_of, outcome_of, search_outcome, search_outcome_with}
use Rattle.lines.specs.Lines.{refused_line}
use Rattle.text.specs.Program.{program_capacity, result_text, printed}
use Rattle.text.specs.Code.{Printable, Lent, met_text, cannot_text, text_room}
use Rattle.text.proofs.Room.{met_most, cannot_most}
use Rattle.text.proofs.Says.{met_text_says, cannot_text_says, program_result, printed-short}
use Rattle.text.proofs.Answers.{refused_says, Ended, ended}

module _ {s grouping store : List ℕ} (lent : Lent s grouping store) where
  -- What the search comes to, and its outcome.
  abbrev result : Result
  result = result_of (sheet_verdict s) program_capacity (search_tree (conditions s))

  abbrev outcome : Outcome
  outcome = search_outcome s grouping store

  outcome-says : outcome ≡ outcome_of (lot_count s) result grouping store
  unfolding search_outcome_with
  outcome-says = ap (λ (r : Result). outcome_of (lot_count s) r grouping store) (program_result s grouping store (search_tree (conditions s)) lent.lots lent.records)

  -- A refusal, by a check or by the full store.
  pub refused-printed : {check place : ℕ} → refused check place ≡ outcome.answer → refused_line check place ≡ printed s
  refused-printed {check} {place} e =
      sym (printed-short s lent.short ∙ refused_says s result check place (sym (e ∙ ap (λ (o : Outcome). o.answer) outcome-says)))

  ended_as : (kind count : ℕ) → answered kind count 0 ≡ outcome.answer → Ended (sheet_verdict s) program_capacity (search_tree (conditions s)) kind count
  ended_as kind count e =
      ended (sheet_verdict s) program_capacity (search_tree (conditions s)) kind count (sym (e ∙ ap (λ (o : Outcome). o.answer) outcome-says))

  -- Any other answer: the sheet has a header, and the store the records that are counted.
  pub printable : {kind count : ℕ} {store' : List ℕ} → answered kind count 0 ≡ outcome.answer → length store' ≡ length store → Printable s count store'
  printable {kind} {count} e kept =
      let end = ended_as kind count e in
      record { header = header-whole (sound s end.passes).header; whole = omega (arith, end.few, end.counted, lent.records) }

  pub lots-grouped : {kind count : ℕ} → answered kind count 0 ≡ outcome.answer → lot_count s ≤ length grouping
  lots-grouped {kind} {count} e = omega (arith, (sound s (ended_as kind count e).passes).header.lots, lent.lots)

  module _ {count : ℕ} {grouping' store' : List ℕ} (grouped : grouping' ≡ outcome.grouping) (stored : store' ≡ outcome.store) where
    -- Met: the text is the program's, and has room.
    module _ (met : answered 1 count 0 ≡ outcome.answer) where
      met-left : met_text s count grouping' store' ≡ result_text s (met_result (search_tree (conditions s)))
      met-left =
          let end = ended_as 1 count met in
          let left = outcome-says ∙ ap (λ (r : Result). outcome_of (lot_count s) r grouping store) (end.met refl) in
          rw (grouped ∙ ap (λ (o : Outcome). o.grouping) left, stored ∙ ap (λ (o : Outcome). o.store) left, end.counted)
          (met_text_says s end.passes (omega (arith, end.few)) store grouping)

      pub met-printed : met_text s count grouping' store' ≡ printed s
      met-printed = met-left ∙ sym (printed-short s lent.short ∙ ap (result_text s) ((ended_as 1 count met).met refl))

      pub met-room : length (met_text s count grouping' store') ≤ text_room
      met-room = let end = ended_as 1 count met in rw met-left (met_most s end.passes end.few)

    -- Cannot: so is this one, and has.
    module _ (cannot : answered 2 count 0 ≡ outcome.answer) where
      cannot_left : cannot_text s count store' ≡ result_text s (cannot_result (search_tree (conditions s)))
      cannot_left =
          let end = ended_as 2 count cannot in
          let left = outcome-says ∙ ap (λ (r : Result). outcome_of (lot_count s) r grouping store) (end.cannot refl) in
          rw (stored ∙ ap (λ (o : Outcome). o.store) left, end.counted) (cannot_text_says s end.passes (omega (arith, end.few)) store)

      pub cannot_printed : cannot_text s count store' ≡ printed s
      cannot_printed = cannot_left ∙ sym (printed-short s lent.short ∙ ap (result_text s) ((ended_as 2 count cannot).cannot refl))

      pub cannot_room : length (cannot_text s count store') ≤ text_room
      cannot_room = let end = ended_as 2 count cannot in rw cannot_left (cannot_most s end.passes end.few)
