-- `levels::join`: the classes of the lots are one, or the next row has them joined.
use native.Mathlib.Omega.{arith}
use Rattle.classes.proofs.Joins.{merged_self}
use Rattle.levels.proofs.Rows.{row_at}
use Rattle.levels.proofs.join.Goals as goal

pub returns-then-x-y-clause-level : goal.returns-then-x-y-clause-level
returns-then-x-y-clause-level c = grind (arith, row_at)

pub returns-then-x-y-clause-next : goal.returns-then-x-y-clause-next
returns-then-x-y-clause-next c = grind (arith, row_at, merged_self)

pub join_row-requires : goal.join_row-requires
join_row-requires c = grind (arith, row_at)

pub returns-clause-most : goal.returns-clause-most
returns-clause-most c = grind (arith, row_at)

pub returns-clause-level : goal.returns-clause-level
returns-clause-level c = grind (arith, row_at)

pub returns-clause-next : goal.returns-clause-next
returns-clause-next c = grind (arith, row_at)
