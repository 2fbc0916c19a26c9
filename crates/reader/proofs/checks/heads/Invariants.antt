use Prim.Native.Nat.{ℕ}
use mathlib.Core.Bool.{Bool}
use mathlib.Core.List.{List}
use lib.Dec.{ltb}
use Rattle.sheet.specs.Format.{condition_count, record_count, head_at}
use Rattle.sheet.proofs.Loops.{Counting}
use Rattle.reader.proofs.checks.heads.Given as goal

abbrev above_records : List ℕ → ℕ → Bool
above_records s c = ltb (record_count s) (head_at s c)

abbrev pub invariant-loop-c : goal.invariant-loop-c
invariant-loop-c l = Counting 4 (above_records l.sheet) (condition_count l.sheet) l.c
