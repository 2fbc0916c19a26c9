-- The word is copied behind the text.
use Prim.Native.Nat.{◌+◌, ◌-◌}
use mathlib.Core.List.{append_assoc}
use mathlib.Core.Path.{◌≡◌, refl}
use native.Mathlib.Omega.{arith}
use lib.ListN.{length}
use lib.Seq.{sets-eq, drop-drop}
use Rattle.lines.proofs.Text.word.Goals as goal

pub returns : goal.returns
returns c =
    let text = c.args.self.now in
    let word = c.args.word.now in
    let count : text.len + length word - text.len ≡ length word = omega arith in
    record {
      lent = refl;
      wrote = record {
        stored = rw (count, c.copy_from_slice.ensures.after, sets-eq word text.out.now text.len c.requires, append_assoc, drop-drop) refl;
        ended = refl;
      };
    }
