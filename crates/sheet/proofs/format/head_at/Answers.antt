-- `sheet::format::head_at` meets its contract: it reads the number where the definition says.
use Rattle.sheet.specs.Format.{head_at}
use borrow.Author.Rules.{rules}
use Rattle.sheet.proofs.format.head_at.Goals as goal

pub returns : goal.returns
unfolding head_at
returns c =
    search rules
