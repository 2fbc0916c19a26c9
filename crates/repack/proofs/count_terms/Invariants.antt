-- `repack::count_terms`: the records counted so far that aren't vacant, and those that are left, come to all terms.
use Prim.Native.Nat.{◌-◌}
use Rattle.repack.proofs.Terms.{Counted}
use Rattle.repack.proofs.count_terms.Given as goal

abbrev pub invariant-loop-r : goal.invariant-loop-r
invariant-loop-r l = Counted l.sheet l.r l.terms
