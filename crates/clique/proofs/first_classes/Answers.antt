-- `clique::first_classes`: where one more than the limit are counted, they are the first; else all are.
use native.Mathlib.Omega.{arith}
use Rattle.limit.specs.Rule.{smallest_from}
use Rattle.limit.proofs.Scan.{one_more, first_found, first_all}
use Rattle.clique.proofs.first_classes.Goals as goal

pub loop-end-init : goal.loop-end-init
unfolding smallest_from
loop-end-init c =
    grind arith

pub returns-then-most-count-clause-first : goal.returns-then-most-count-clause-first
returns-then-most-count-clause-first c =
    grind (arith, first_found)

pub loop-end-preserved : goal.loop-end-preserved
loop-end-preserved c =
    grind (arith, one_more)

pub returns : goal.returns
returns c =
    grind (arith, first_all)
