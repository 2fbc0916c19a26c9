-- `texts::met_text` meets its contract: the first line, the records' lines and the last, one after the other.
use mathlib.Core.Path.{ap, ◌∙◌}
use Rattle.std.proofs.Common.{rules}
use Rattle.sheet.specs.declared.Header.{Header}
use Rattle.lines.proofs.Appending.{room-left, last, wrote_first}
use Rattle.text.proofs.Parts.{lines-room, recorded}
use Rattle.text.proofs.texts.met_text.Goals as goal

pub record_lines-requires : goal.record_lines-requires
record_lines-requires c = (c.requires.0.whole, lines-room c.new-text.ensures _ _ _ c.requires.2 c.header_line.ensures)

pub met_line-requires : goal.met_line-requires
met_line-requires c =
    rw (c.from.ensures ∙ ap (λ (h : Header). h.lots) c.header_of-h.ensures)
    (room-left (recorded c.new-text.ensures _ _ _ c.requires.2 c.header_line.ensures c.record_lines.ensures))

pub returns : goal.returns
returns c =
    let met = rw (c.from.ensures ∙ ap (λ (h : Header). h.lots) c.header_of-h.ensures) at c.met_line.ensures in
    let whole = last met (recorded c.new-text.ensures _ _ _ c.requires.2 c.header_line.ensures c.record_lines.ensures) in
    wrote_first c.new-text.ensures c.requires.2 whole (search (rules, whole.lent, c.new-text.ensures.lent)) c.len.ensures
