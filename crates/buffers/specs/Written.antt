-- Bytes that are written into a buffer, the others untouched.
use Rattle.std.specs.Prelude.{ℕ, ◌+◌, List, ◌++◌, ◌≡◌, length, drop}
use Rattle.std.proofs.lemmas.List.Edits.{sets}

-- A buffer whose first bytes are written, and whose others are untouched.
abbrev pub written : List ℕ → List ℕ → List ℕ
written bytes buffer = bytes ++ drop (length bytes) buffer

-- Of the buffer `before`, the bytes from place `at` on were overwritten with `bytes`, and no others; `next` is the place after them.
pub record Wrote (before after : List ℕ) (at next : ℕ) (bytes : List ℕ) : Type 0 where
  pub stored : after ≡ sets before at bytes
  pub ended : next ≡ at + length bytes

-- The buffer `before` begins with `bytes` now, and its other bytes are untouched; `count` is how many were written.
pub record WroteFirst (before after : List ℕ) (count : ℕ) (bytes : List ℕ) : Type 0 where
  pub front : after ≡ written bytes before
  pub counted : count ≡ length bytes
