-- `repack::add_conditions`: the conditions that are left, added to what there is now, come to all of them.
use Prim.Native.Nat.{◌-◌, ◌≤◌}
use lib.ListN.{drop}
use Rattle.sheet.specs.Format.{condition_count}
use Rattle.sheet.specs.Conditions.{conditions}
use Rattle.writer.specs.Drafts.{draft}
use Rattle.writer.proofs.Packing.{Packing}
use Rattle.repack.proofs.add_conditions.Given as goal

abbrev pub invariant-loop-c : goal.invariant-loop-c
invariant-loop-c l = (l.c ≤ condition_count l.sheet) × Packing (conditions l.sheet) (draft l.initial.out l.initial.next) (drop l.c (conditions l.sheet)) (draft l.out l.next)
