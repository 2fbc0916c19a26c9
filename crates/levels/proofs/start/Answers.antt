-- `levels::start`: the first row is lent, and comes back with every lot alone.
use mathlib.Core.List.{[]}
use mathlib.Core.Path.{sym, ◌∙◌}
use native.Mathlib.Omega.{arith}
use Rattle.levels.proofs.Rows.{row-length, row_put}
use Rattle.levels.proofs.start.Goals as goal

pub slice_bounds-separate-end-2 : goal.slice_bounds-separate-end-2
slice_bounds-separate-end-2 c =
    sym (row-length c.args.maps.now 0 c.requires (omega arith))

pub returns : goal.returns
returns c =
    let lent = c.separate in
    row_put [] lent.new.lots _ 0 (omega arith) (lent.auto.lots ∙ row-length c.args.maps.now 0 c.requires (omega arith)) ∙ lent.ensures
