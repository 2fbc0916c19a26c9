-- `reader::once::reached_once` meets its contract: where the walk refuses, check 17 or 6 does; where it passes, the flags are what check 7 asks of.
use mathlib.Core.Path.{refl, ◌∙◌}
use Rattle.sheet.proofs.Refusals.{passed_on_is}
use Rattle.reader.proofs.WalkLoops.{walk_refused, walk_passed}
use Rattle.reader.proofs.once.reached_once.Goals as goal

pub returns-in_err-walk : goal.returns-in_err-walk
returns-in_err-walk c =
    rw (passed_on_is c.from_residual.ensures.1) (walk_refused c.args.sheet.now refl c.walk.new.flags (c.in_err-walk.ensures))

pub returns : goal.returns
returns c =
    c.reached.ensures
    ∙ walk_passed c.args.sheet.now (rw c.in_ok-walk.was) c.walk.new.flags
    (c.walk.auto.flags ∙ c.requires.0.flaggable.room) c.walk.ensures
