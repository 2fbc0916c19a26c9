-- The lots, the conditions, and the terms with the line's end, one after the other.
use Prim.Native.Nat.{ℕ}
use mathlib.Core.List.{List, [], ◌∷◌, ◌++◌}
use mathlib.Core.Path.{◌≡◌}
use Rattle.sheet.specs.Inner.{header_at}
use Rattle.sheet.specs.declared.Header.{Header}
use Rattle.lines.specs.declared.Text.{Text}
use Rattle.lines.specs.Lines.{decimal, line, lots_word, conditions_word, terms_word, header_line}
use Rattle.lines.specs.Appending.{Appends, HasRoom}
use Rattle.lines.proofs.Appending.{Left, start, room-left, room, then, last}
use Rattle.lines.proofs.Text.header_line.Goals as goal

-- The pieces, of a header's counts.
abbrev lots : Header → List ℕ
lots h = lots_word ++ 32 ∷ decimal h.lots

abbrev conditions : Header → List ℕ
conditions h = (32 ∷ conditions_word) ++ 32 ∷ decimal h.conditions

abbrev terms : Header → List ℕ
terms h = line (32 ∷ terms_word) (decimal h.records ∷ [])

-- What is left of the line at its start, behind the lots, and behind the conditions.
module _ (text : Text) (s : List ℕ) {h : Header} (e : h ≡ header_at s) (r : HasRoom text (header_line s)) where
  begun : Left text (header_line s) text (lots h ++ (conditions h ++ terms h))
  unfolding header_line line
  begun = rw e (start r)

  behind_lots : {next : Text} → Appends text next (lots h) → Left text (header_line s) next (conditions h ++ terms h)
  behind_lots p = then (conditions h ++ terms h) p begun

  behind_conditions : {next last : Text} → Appends text next (lots h) → Appends next last (conditions h) → Left text (header_line s) last (terms h)
  behind_conditions p q = then (terms h) q (behind_lots p)

pub returns : goal.returns
returns c =
    last (rw c.from.ensures at c.line.ensures)
    (behind_conditions c.args.self.now c.args.sheet.now c.header_of-h.ensures c.requires.1 c.count.ensures c.count-2.ensures)

pub count-requires : goal.count-requires
count-requires c =
    let h = c.header_of-h.result in
    room (lots h) (conditions h ++ terms h) (begun c.args.self.now c.args.sheet.now c.header_of-h.ensures c.requires.1)

pub count-requires-2 : goal.count-requires-2
count-requires-2 c =
    let h = c.header_of-h.result in
    room (conditions h) (terms h) (behind_lots c.args.self.now c.args.sheet.now c.header_of-h.ensures c.requires.1 c.count.ensures)

pub line-requires : goal.line-requires
line-requires c =
    rw c.from.ensures
    (room-left (behind_conditions c.args.self.now c.args.sheet.now c.header_of-h.ensures c.requires.1 c.count.ensures c.count-2.ensures))
