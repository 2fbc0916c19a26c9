-- For the contracts of the code; this file states nothing of document 01.
use Rattle.std.specs.Prelude.{ℕ, ◌+◌, ◌≤◌, List, ◌≡◌, length}
use Rattle.std.specs.Borrow.{MutBor}
use Rattle.buffers.specs.Written.{Wrote}
use Rattle.lines.specs.declared.Text.{Text}

-- An empty text at the front of the buffer that is lent, which is untouched.
pub record Begins (buffer : MutBor (List ℕ)) (text : Text) : Type 0 where
  pub lent : text.out.ghost_name ≡ buffer.ghost_name
  pub untouched : text.out.now ≡ buffer.now
  pub empty : text.len ≡ 0

-- There is room for these bytes behind the text.
abbrev pub HasRoom : Text → List ℕ → Type 0
HasRoom text bytes = text.len + length bytes ≤ length text.out.now

-- The bytes stand behind the old text now, in the buffer that was lent, and its other bytes are untouched.
pub record Appends (old new : Text) (bytes : List ℕ) : Type 0 where
  pub lent : new.out.ghost_name ≡ old.out.ghost_name
  pub wrote : Wrote old.out.now new.out.now old.len new.len bytes

-- How many bytes the text has.
abbrev pub text_len : Text → ℕ
text_len text = text.len
