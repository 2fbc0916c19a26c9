-- A text that grows piece by piece: what is left of what is being appended, and the room for that.
use Prim.Native.Nat.{ℕ, ◌≤◌}
use mathlib.Core.List.{List, [], ◌++◌}
use mathlib.Core.Path.{◌≡◌, refl, ap, ◌∙◌}
use native.Mathlib.Omega.{arith}
use lib.ListN.{length}
use Rattle.std.specs.Borrow.{MutBor}
use Rattle.buffers.specs.Written.{WroteFirst}
use Rattle.buffers.proofs.Writing as bytes
use Rattle.buffers.proofs.Writing.{Writing}
use Rattle.lines.specs.declared.Text.{Text}
use Rattle.lines.specs.Appending.{Begins, Appends, HasRoom}

pub unchanged : (text : Text) → Appends text text []
unchanged text = record { lent = refl; wrote = bytes.nothing text.out.now text.len }

-- `all`, which has room, is being appended to the text `old`. That is `text` now, and `rest` is left to append.
pub record Left (old : Text) (all : List ℕ) (text : Text) (rest : List ℕ) : Type 0 where
  pub roomy : HasRoom old all
  pub lent : text.out.ghost_name ≡ old.out.ghost_name
  pub written : Writing old.out.now old.len all text.out.now text.len rest

pub start : {old : Text} {all : List ℕ} → HasRoom old all → Left old all old all
start {old} {all} h = record { roomy = h; lent = refl; written = bytes.start old.out.now old.len all }

module _ {old : Text} {all : List ℕ} {text : Text} where
  -- What is left has room, and so has its first piece;
  pub room-left : {rest : List ℕ} → Left old all text rest → HasRoom text rest
  room-left w = bytes.room-left w.written w.roomy

  pub room : (piece rest : List ℕ) → Left old all text (piece ++ rest) → HasRoom text piece
  room piece rest w = bytes.room piece rest w.written w.roomy

  -- the piece is appended, and the rest is left;
  pub then : {new : Text} {piece : List ℕ} (rest : List ℕ) → Appends text new piece → Left old all text (piece ++ rest) → Left old all new rest
  then rest p w = record { roomy = w.roomy; lent = p.lent ∙ w.lent; written = bytes.then rest p.wrote w.written }

  -- where nothing is left, or the last piece is appended, all is.
  pub done : Left old all text [] → Appends old text all
  done w = record { lent = w.lent; wrote = bytes.whole w.written }

  pub last : {new : Text} {piece : List ℕ} → Appends text new piece → Left old all text piece → Appends old new all
  last p w = record { lent = p.lent ∙ w.lent; wrote = bytes.last p.wrote w.written }

-- A text that begins a buffer.
module _ {buffer : MutBor (List ℕ)} {none : Text} (b : Begins buffer none) {all : List ℕ} (h : length all ≤ length buffer.now) where
  pub begin : Left none all none all
  begin = start (omega (arith, h, ap length b.untouched, b.empty))

  -- Where the buffer ends as the whole text has it, and the count is the text's length, the text stands at the buffer's front.
  pub wrote_first : {out : List ℕ} {text : Text} {count : ℕ} → Appends none text all → out ≡ text.out.now → count ≡ text.len
      → WroteFirst buffer.now out count all
  wrote_first p e f = rw (e, f) (bytes.wrote_first (rw (b.untouched, b.empty) at p.wrote) h)
