use mathlib.Core.Path.{◌≡◌}
use Rattle.classes.proofs.Marks.{marked_by}
use Rattle.classes.proofs.Classes.marked_apart.Given as goal

abbrev pub invariant-loop-left : goal.invariant-loop-left
invariant-loop-left l = marked_by l.self.lots l.pairs l.x l.y l.count ≡ marked_by l.self.lots l.pairs l.x l.y l.left
