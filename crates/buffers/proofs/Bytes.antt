-- Two-byte numbers: what is put is got, wherever it stands.
use Prim.Native.Nat.{ℕ, ◌+◌, ◌*◌, ◌/◌, ◌%◌}
use mathlib.Core.List.{List, ◌++◌}
use mathlib.Core.Path.{◌≡◌}
use native.Mathlib.Nat.{add_assoc}
use native.Mathlib.Omega.{arith}
use lib.ListN.{length, get_or}
use lib.Seq.{get_or-append-add}
use Rattle.buffers.specs.Bytes.{number, two_bytes, TwoBytes}

-- The two bytes of a number give that number.
pub low-high : (x : ℕ) → TwoBytes x → x % 256 + 256 * (x / 256 % 256) ≡ x
low-high x h = omega arith

pub two_bytes_lem : (x : ℕ) (rest : List ℕ) → TwoBytes x → number (two_bytes x ++ rest) 0 ≡ x
unfolding number two_bytes
two_bytes_lem x rest h = omega arith

-- Bytes in front do not matter.
module _ (p q : List ℕ) where
  pub byte_shift : (i j : ℕ) → get_or (p ++ q) (length p + i + j) 0 ≡ get_or q (i + j) 0
  byte_shift i j = rw (add_assoc (length p) i j) (get_or-append-add p q (i + j) 0)

  pub number_shift : (i j : ℕ) → number (p ++ q) (length p + i + j) ≡ number q (i + j)
  unfolding number
  number_shift i j = rw (byte_shift i j, add_assoc (length p + i) j 1, byte_shift i (j + 1), ← add_assoc i j 1)
