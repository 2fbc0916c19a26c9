-- `checker::check_records`: no splits, and every lot alone, to begin with.
use native.Mathlib.Omega.{arith}
use Rattle.levels.proofs.Leveling.{walkable_none}
use Rattle.checker.proofs.check_records.Goals as goal

pub walk-requires : goal.walk-requires
walk-requires c =
    let room = c.requires.2 in
    (c.requires.0, c.requires.1, walkable_none _ _ _ c.start.auto.maps (omega (arith, room.places)) c.requires.3 c.start.ensures, omega arith, room)
