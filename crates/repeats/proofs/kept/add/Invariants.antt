-- `repeats::kept::add`: the conditions of the entries that are left, added to what there is now, come to all of them.
use lib.ListN.{drop}
use Rattle.writer.specs.Drafts.{draft}
use Rattle.writer.proofs.Packing.{Packing}
use Rattle.repeats.specs.Inner.{kept_of}
use Rattle.repeats.proofs.kept.add.Given as goal

abbrev pub invariant-loop-entry : goal.invariant-loop-entry
invariant-loop-entry l = Packing (kept_of l.sheet l.entries) (draft l.initial.out l.initial.next) (kept_of l.sheet (drop l.entry-index l.entries)) (draft l.out l.next)
