-- A store that has room for a record more, and has len its length since.
use Prim.Native.Nat.{ℕ, ◌+◌, ◌≤◌, ◌<◌}
use mathlib.Core.List.{List}
use mathlib.Core.Path.{◌≡◌}
use native.Mathlib.Omega.{arith}
use lib.ListN.{length}
use Rattle.store.specs.Records.{most_next, capacity}
use Rattle.store.specs.Code.{HasPlace}

module _ (store : List ℕ) (before : ℕ) (room : before < capacity store) where
  pub has-place : (store' : List ℕ) → length store' ≡ length store → HasPlace store' (before + 1)
  has-place store' len = record { least = omega arith; whole = omega arith }

  pub number_fits : before + 1 ≤ most_next
  number_fits = omega arith
