-- `texts::refused_text` meets its contract: a refusal of any two numbers has room.
use Prim.Native.Nat.{ℕ, ◌≤◌, ◌<◌, ◌^◌}
use native.Mathlib.Omega.{arith}
use lib.ListN.{length}
use Rattle.std.proofs.Common.{rules}
use Rattle.lines.specs.Lines.{refused_line}
use Rattle.lines.proofs.Appending.{begin, wrote_first}
use Rattle.text.specs.Code.{text_room}
use Rattle.text.proofs.Room.{refused_most}
use Rattle.text.proofs.texts.refused_text.Goals as goal

roomy : (check place n : ℕ) → check < 2 ^ 32 → place < 2 ^ 32 → text_room ≤ n → length (refused_line check place) ≤ n
roomy check place n h k r = omega (arith, r, refused_most check place (omega (arith, h)) (omega (arith, k)))

pub refused_line-requires : goal.refused_line-requires
refused_line-requires c =
    (begin c.new-text.ensures (roomy c.args.check c.args.place _ c.ranges.check.fits c.ranges.place.fits c.requires)).roomy

pub returns : goal.returns
returns c =
    wrote_first c.new-text.ensures (roomy c.args.check c.args.place _ c.ranges.check.fits c.ranges.place.fits c.requires)
    c.refused_line.ensures (search (rules, c.refused_line.ensures.lent, c.new-text.ensures.lent)) c.len.ensures
