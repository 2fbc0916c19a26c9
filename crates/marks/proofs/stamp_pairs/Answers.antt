-- `marks::stamp_pairs`: the pairs stand in front of the table, so they are the same once it is cleared.
use Rattle.marks.proofs.Marks.{outside-pairs}
use Rattle.marks.proofs.stamp_pairs.Goals as goal

pub returns-clause-marks : goal.returns-clause-marks
returns-clause-marks c =
    rw (outside-pairs c.clear.ensures.outside c.args.count c.requires.1) at c.mark_pairs.ensures.marks
