-- A text of three parts, which are appended one after the other: its first line, the records' lines, and its last.
use Prim.Native.Nat.{ℕ, ◌≤◌}
use mathlib.Core.List.{List, ◌++◌, append_assoc}
use lib.ListN.{length}
use Rattle.std.specs.Borrow.{MutBor}
use Rattle.lines.specs.declared.Text.{Text}
use Rattle.lines.specs.Appending.{Begins, Appends, HasRoom}
use Rattle.lines.proofs.Appending.{Left, begin, room, then}

module _ {buffer : MutBor (List ℕ)} {none : Text} (b : Begins buffer none) (head lines end : List ℕ)
    (h : length (head ++ lines ++ end) ≤ length buffer.now) where
  -- What is left at the start, behind the first line, and behind the records' lines.
  begun : Left none (head ++ lines ++ end) none (head ++ (lines ++ end))
  begun = rw (append_assoc head lines end) (begin b (rw (append_assoc head lines end) at h))

  headed : {text : Text} → Appends none text head → Left none (head ++ lines ++ end) text (lines ++ end)
  headed p = then (lines ++ end) p begun

  pub recorded : {headed-text text : Text} → Appends none headed-text head → Appends headed-text text lines
      → Left none (head ++ lines ++ end) text end
  recorded p q = then end q (headed p)

  -- So each has room.
  pub lines-room : {text : Text} → Appends none text head → HasRoom text lines
  lines-room p = room lines end (headed p)
