-- Writing bytes piece by piece: what is left of it, and the room for that.
use Prim.Native.Nat.{ℕ, ◌+◌, ◌≤◌}
use mathlib.Core.List.{List, [], ◌∷◌, ◌++◌, append-nil, append_assoc}
use mathlib.Core.Path.{◌≡◌, refl, ap, ap₂, sym, ◌∙◌}
use native.Mathlib.Nat.{add-zero, zero-add}
use native.Mathlib.Omega.{arith}
use lib.ListN.{length, set, length-append}
use lib.Seq.{sets, length-sets, sets-eq}
use Rattle.buffers.proofs.Sets.{sets-sets}
use Rattle.buffers.specs.Written.{Wrote, WroteFirst}

-- Nothing written.
pub nothing : (l : List ℕ) (at : ℕ) → Wrote l l at at []
nothing l at = record { stored = refl; ended = sym (add-zero at) }

-- One byte stored.
pub one : (l : List ℕ) (at byte : ℕ) → Wrote l (set l at byte) at (at + 1) (byte ∷ [])
one l at byte = record { stored = refl; ended = refl }

-- `all` is being written over `before` from `at` on: the buffer is now `after`, and `rest` is to be written from `next` on.
pub record Writing (before : List ℕ) (at : ℕ) (all after : List ℕ) (next : ℕ) (rest : List ℕ) : Type 0 where
  pub stored : sets after next rest ≡ sets before at all
  pub ends : next + length rest ≡ at + length all
  pub sized : length after ≡ length before

pub start : (before : List ℕ) (at : ℕ) (all : List ℕ) → Writing before at all before at all
start before at all = record { stored = refl; ends = refl; sized = refl }

-- The start of three pieces.
pub start_three : (before first second third : List ℕ)
    → Writing before 0 (first ++ second ++ third) before 0 (first ++ (second ++ third))
start_three before first second third = rw (append_assoc first second third) (start before 0 (first ++ (second ++ third)))

module _ {before : List ℕ} {at : ℕ} {all after : List ℕ} {next : ℕ} where
  -- What is left has room, where the whole has, and so has its first piece;
  pub room-left : {rest : List ℕ} → Writing before at all after next rest → at + length all ≤ length before → next + length rest ≤ length after
  room-left w h = omega (arith, w.ends, w.sized)

  pub room : (piece rest : List ℕ) → Writing before at all after next (piece ++ rest) → at + length all ≤ length before
      → next + length piece ≤ length after
  room piece rest w h = omega (arith, room-left w h, length-append piece rest)

  -- the piece is written, and the rest is left;
  pub then : {after' : List ℕ} {next' : ℕ} {piece : List ℕ} (rest : List ℕ) → Wrote after after' next next' piece
      → Writing before at all after next (piece ++ rest) → Writing before at all after' next' rest
  then {after'} {next'} {piece} rest p w =
      record {
        stored = ap₂ (λ (l : List ℕ) (i : ℕ). sets l i rest) p.stored p.ended ∙ sets-sets piece rest after next ∙ w.stored;
        ends = omega (arith, w.ends, p.ended, length-append piece rest);
        sized = ap length p.stored ∙ length-sets after next piece ∙ w.sized;
      }

  -- where nothing is left, or the last piece is written, the whole is.
  pub whole : Writing before at all after next [] → Wrote before after at next all
  whole w = record { stored = w.stored; ended = omega (arith, w.ends) }

pub last : {before : List ℕ} {at : ℕ} {all after : List ℕ} {next : ℕ} {after' : List ℕ} {next' : ℕ} {piece : List ℕ}
    → Wrote after after' next next' piece → Writing before at all after next piece → Wrote before after' at next' all
last {piece = piece} p w = whole (then [] p (rw (append-nil piece) w))

-- What is written from the front on, and has room, stands there with the rest untouched.
pub wrote_first : {before after : List ℕ} {count : ℕ} {bytes : List ℕ} → Wrote before after 0 count bytes → length bytes ≤ length before
    → WroteFirst before after count bytes
wrote_first {before} {bytes = bytes} w h =
    record { front = w.stored ∙ rw (zero-add (length bytes)) at (sets-eq bytes before 0 (omega arith)); counted = omega (arith, w.ended) }
