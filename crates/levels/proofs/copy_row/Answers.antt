use native.Mathlib.Omega.{arith}
use Rattle.levels.proofs.Rows.{rows_before, row_copied}
use Rattle.levels.proofs.copy_row.Goals as goal

pub returns : goal.returns
returns c =
    record {
      next = row_copied c.args.maps.now c.loop-i.maps c.args.level c.requires.0 c.loop-i.invariant.0 c.requires.1
          (λ i lt. c.loop-i.invariant.2 i (omega arith));
      others = rows_before c.args.maps.now c.loop-i.maps c.args.level c.requires.0 c.loop-i.invariant.0 (omega (arith, c.requires.1)) c.loop-i.invariant.1;
    }
