use Rattle.lines.specs.Lines.{refused_line}
use Rattle.lines.proofs.Text.refused_line.Goals as goal

pub line-requires : goal.line-requires
unfolding refused_line
line-requires c = c.requires

pub returns : goal.returns
unfolding refused_line
returns c = c.line.ensures
