-- `sheet::in_lots`: no lot is below lot 0, so one test decides.
use native.Mathlib.Omega.{arith}
use borrow.Author.Tests.{le-leb}
use Rattle.sheet.specs.Format.{lowest_lot}
use Rattle.sheet.proofs.in_lots.Goals as goal

pub returns : goal.returns
returns c =
    simp (le-leb lowest_lot c.args.lot.0 (omega arith))
