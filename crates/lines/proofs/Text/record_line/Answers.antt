-- Each arm appends the line that the definition gives that record, which for the last three is none.
use mathlib.Core.Logic.{inl, inr}
use Rattle.lines.specs.Lines.{record_line}
use Rattle.lines.proofs.Appending.{unchanged}
use Rattle.lines.proofs.Text.record_line.Goals as goal

pub line-requires : goal.line-requires
unfolding record_line
line-requires c = rw (c.from.ensures, c.from-in-Split.ensures) (rw c.in-Split.is at c.requires)

pub line-requires-in-Ground : goal.line-requires-in-Ground
unfolding record_line
line-requires-in-Ground c = rw c.from-in-Ground.ensures (rw c.in-Ground.is at c.requires)

pub returns-in-Split : goal.returns-in-Split
unfolding record_line
returns-in-Split c = rw c.in-Split.is (rw (c.from.ensures, c.from-in-Split.ensures) at c.line.ensures)

pub returns-in-Ground : goal.returns-in-Ground
unfolding record_line
returns-in-Ground c = rw c.in-Ground.is (rw c.from-in-Ground.ensures at c.line-in-Ground.ensures)

pub returns-in-Met : goal.returns-in-Met
unfolding record_line
returns-in-Met c =
    elim c.in-Met.is [
      | inl is ↦ rw is (unchanged _)
      | inr (inl is) ↦ rw is (unchanged _)
      | inr (inr is) ↦ rw is (unchanged _)
    ]
