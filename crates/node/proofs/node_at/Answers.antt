-- `node::node_at`: the terms from the place on decide what the node is; nowhere, and after a pair of classes, it is met.
use Rattle.node.proofs.Leaving.{stands, pair_none}
use Rattle.node.proofs.Resuming.{none-met}
use Rattle.node.proofs.node_at.Goals as goal

pub returns-in-Nowhere-clause-node : goal.returns-in-Nowhere-clause-node
returns-in-Nowhere-clause-node c limit lots ds rep w = none-met ds c.args.sheet.now (stands limit lots c.args.sheet.now ds c.in-Nowhere.is w)

pub returns-in-After-clause-node : goal.returns-in-After-clause-node
returns-in-After-clause-node c limit lots ds rep w =
    let s = c.args.sheet.now in
    none-met ds s (pair_none limit lots s _ _ ds (stands limit lots s ds c.in-After.is w))
