-- `levels::join_row`: the next row is copied from the level's, lent, and comes back with the classes joined; those before it are as they were.
use Prim.Native.Nat.{ℕ, ◌+◌, ◌*◌, ◌-◌}
use mathlib.Core.Path.{◌≡◌, ap, ◌∙◌}
use native.Mathlib.Omega.{arith}
use lib.ListN.{length, take, drop}
use Rattle.equality.specs.Node.{merged}
use Rattle.classes.specs.Maps.{entries}
use Rattle.levels.proofs.Rows.{row-length, row_put, above-length, rows_above}
use Rattle.levels.proofs.join_row.Goals as goal

pub returns : goal.returns
returns c =
    let lent = c.join_entries in
    let level = c.args.level in
    let copied = c.copy_row.new.maps in
    let to = entries * (level + 1) in
    let size : to + entries - to ≡ entries = omega arith in
    let len = c.copy_row.auto.maps ∙ c.requires.0 in
    let part = ap (λ (k : ℕ). take k (drop to copied)) size in
    let rest = drop (to + entries - to) (drop to copied) in record {
      next = row_put (take to copied) lent.new.lots rest (level + 1) (above-length copied level len c.requires.1)
          (lent.auto.lots ∙ ap length part ∙ row-length copied (level + 1) len (omega (arith, c.requires.1)))
          ∙ lent.ensures.joined
          ∙ ap (merged c.args.x c.args.y) (part ∙ c.copy_row.ensures.next);
      others = (λ k le. rows_above copied level len c.requires.1 _ k le ∙ c.copy_row.ensures.others k le);
    }
