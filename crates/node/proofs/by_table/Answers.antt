-- `node::by_table`: the table is marked by the pairs in front of it, which stay as they are.
use Rattle.marks.proofs.Marks.{marks_represent}
use Rattle.node.proofs.by_table.Goals as goal

pub returns : goal.returns
returns c =
    record { node = (λ ds rep w. c.first_unmarked.ensures.node ds rep.lots (marks_represent rep c.stamp_pairs.ensures.marks) w); leaves = (λ ds rep w. c.first_unmarked.ensures.leaves ds rep.lots (marks_represent rep c.stamp_pairs.ensures.marks) w); outside = c.stamp_pairs.ensures.outside }
