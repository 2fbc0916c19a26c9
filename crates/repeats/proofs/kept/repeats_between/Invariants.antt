-- `repeats::kept::repeats_between`: the condition repeats none of those passed, so the entries that are left decide.
use Rattle.sheet.specs.Conditions.{terms_from}
use Rattle.repeats.proofs.Seeking.{Seeking}
use Rattle.repeats.proofs.kept.repeats_between.Given as goal

abbrev pub invariant-loop-entry : goal.invariant-loop-entry
invariant-loop-entry l = Seeking (terms_from l.sheet l.condition.head.0) l.other l.entries l.entry-index
