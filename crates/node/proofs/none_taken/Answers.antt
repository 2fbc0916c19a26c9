-- `node::none_taken`: without a limit the node is met; else what the limit makes of it, by the place where its pairs of classes are looked at.
use native.Mathlib.Numerals.{add-one}
use Rattle.limit.proofs.Resumes.{scan_start}
use Rattle.node.proofs.Leaving.{stands, limited-node, no_limit_met, resumes-limited}
use Rattle.node.proofs.none_taken.Goals as goal

-- Without a limit;
pub returns-in_default-clause-node : goal.returns-in_default-clause-node
returns-in_default-clause-node c s ds rep w none = no_limit_met c.args.lots ds c.in_default.is

-- from the first pair on;
pub returns-in-Nowhere-clause-node : goal.returns-in-Nowhere-clause-node
returns-in-Nowhere-clause-node c s ds rep w none =
    let limited = c.under_limit.ensures in
    let from = scan_start c.in-Some.limit c.args.lots ds in
    (limited-node c.in-Some.limit c.args.lots s ds c.in-Some.is none c.under_limit.result limited.pair (limited.node ds rep from)).0

pub returns-in-Nowhere-clause-leaves : goal.returns-in-Nowhere-clause-leaves
returns-in-Nowhere-clause-leaves c s ds rep w none =
    let limited = c.under_limit.ensures in
    let from = scan_start c.in-Some.limit c.args.lots ds in
    (limited-node c.in-Some.limit c.args.lots s ds c.in-Some.is none c.under_limit.result limited.pair (limited.node ds rep from)).1

-- after a pair.
pub returns-in-After-clause-leaves : goal.returns-in-After-clause-leaves
returns-in-After-clause-leaves c s ds rep w none =
    let limited = c.under_limit-in-After.ensures in
    let at = resumes-limited c.in-Some.limit c.args.lots s _ _ ds c.in-Some.is (stands _ _ s ds c.in-After.is w) in
    (limited-node c.in-Some.limit c.args.lots s ds c.in-Some.is none c.under_limit-in-After.result limited.pair (limited.node ds rep (rw add-one at.pairs))).1
