-- `clique::first_open`: behind the last lot there is no pair.
use native.Mathlib.Omega.{arith}
use Rattle.limit.proofs.Scan.{pairs_end}
use Rattle.clique.proofs.first_open.Goals as goal

pub returns-then-end-x : goal.returns-then-end-x
returns-then-end-x c =
    grind (arith, pairs_end)
