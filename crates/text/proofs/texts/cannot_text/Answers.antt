-- `texts::cannot_text` meets its contract: the first line, the records' lines and the last, one after the other.
use Rattle.std.proofs.Common.{rules}
use Rattle.lines.specs.Lines.{cannot_line}
use Rattle.lines.proofs.Appending.{room-left, last, wrote_first}
use Rattle.text.proofs.Parts.{lines-room, recorded}
use Rattle.text.proofs.texts.cannot_text.Goals as goal

pub record_lines-requires : goal.record_lines-requires
record_lines-requires c = (c.requires.0.whole, lines-room c.new-text.ensures _ _ _ c.requires.1 c.header_line.ensures)

pub line-requires : goal.line-requires
unfolding cannot_line
line-requires c = room-left (recorded c.new-text.ensures _ _ _ c.requires.1 c.header_line.ensures c.record_lines.ensures)

pub returns : goal.returns
unfolding cannot_line
returns c =
    let whole = last c.line.ensures (recorded c.new-text.ensures _ _ _ c.requires.1 c.header_line.ensures c.record_lines.ensures) in
    wrote_first c.new-text.ensures c.requires.1 whole (search (rules, whole.lent, c.new-text.ensures.lent)) c.len.ensures
