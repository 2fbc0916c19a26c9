-- `scan::scan`: the conditions that the outer loop has passed are met by the classes, and the levels, of which some were written where there was none, are of
-- settled conditions; the terms that the loops over a condition's terms have passed are not true by the classes, and they have written no level. The loop over
-- a run stands at a record, from which on there are no more records than from the one where the run begins.
use mathlib.Core.Path.{◌≡◌}
use Prim.Native.Nat.{◌-◌, ◌≤◌}
use lib.ListN.{length}
use Rattle.sheet.specs.Conditions.{records_from}
use Rattle.equality.specs.Node.{class_of}
use Rattle.equality.specs.Meaning.{holds}
use Rattle.equality.proofs.Passing.{Passing}
use Rattle.equality.proofs.Node.{lowest_taken}
use Rattle.sheet.proofs.Scanning.{Scanning}
use Rattle.scan.specs.Settled.{Settled, Later}
use Rattle.scan.proofs.scan.Given as goal

abbrev pub invariant-run : goal.invariant-run
invariant-run l = Passing (holds (class_of l.lots)) l.sheet l.head.0 l.at.0
    × (1 ≤ l.at.0)
    × (length (records_from l.sheet l.at.0) ≤ length (records_from l.sheet l.initial.at.0))
    × (l.levels ≡ l.initial.levels)

abbrev pub invariant-terms : goal.invariant-terms
invariant-terms l = Passing (holds (class_of l.lots)) l.sheet l.initial.at.0 l.at.0 × (l.levels ≡ l.initial.levels)

abbrev pub invariant-conditions : goal.invariant-conditions
invariant-conditions l = Scanning (lowest_taken (class_of l.lots)) l.sheet l.c × Settled l.lots l.sheet l.levels l.level × Later l.initial.levels l.levels l.level

abbrev pub decreases-run : goal.decreases-run
decreases-run l = length (records_from l.sheet l.at.0)

abbrev pub decreases-terms : goal.decreases-terms
decreases-terms l = length (records_from l.sheet l.at.0)

abbrev pub decreases-conditions : goal.decreases-conditions
decreases-conditions l = l.m - l.c
