-- What the reader's counts of an accepted sheet, and the count of its terms, are to the writer: the packed length, the room for it, and the whole of what is
-- written.
use Prim.Native.Nat.{ℕ, ◌≤◌}
use mathlib.Core.List.{List, flatten}
use mathlib.Core.Path.{◌≡◌, sym, ap₂, ◌∙◌}
use native.Mathlib.Omega.{arith}
use lib.ListN.{length}
use Rattle.buffers.specs.Written.{written}
use Rattle.sheet.specs.Format.{lot_count, sheet_length}
use Rattle.sheet.specs.Conditions.{conditions}
use Rattle.sheet.proofs.Accepted.{sound}
use Rattle.sheet.proofs.Conditions.{conditions-length, terms-length}
use Rattle.sheet.proofs.Readings.{ReadAs}
use Rattle.writer.specs.Drafts.{begun, with_conditions, RoomForAll}
use Rattle.writer.proofs.Rooms.{room-begun}
use Rattle.writer.proofs.Whole.{whole}
use Rattle.repack.specs.Repack.{repacked, repacked_length}

module _ {s : List ℕ} {n m k : ℕ} (read : ReadAs s n m k) {t : ℕ} (termed : t ≡ length (flatten (conditions s))) where
  counted : m ≡ length (conditions s)
  counted = read.conditions ∙ sym (conditions-length s)

  -- The packed length is that of a sheet with these counts.
  pub needed : sheet_length m t ≡ repacked_length s
  needed = ap₂ sheet_length counted termed

  module _ (out : List ℕ) (fits : sheet_length m t ≤ length out) where
    -- Behind the header, whatever lots it has, there is room for all conditions.
    pub counts-room : (lots : ℕ) → RoomForAll (conditions s) (begun lots m t out)
    counts-room lots =
        rw (← counted, ← termed)
        (room-begun lots m t out (omega (arith, termed, terms-length s read.accepted, (sound s read.accepted).header.records)) fits)

    -- All of them, behind the header, are the packed sheet.
    pub counts_whole : (with_conditions (conditions s) (begun n m t out)).bytes ≡ written (repacked s) out
    counts_whole = rw (read.lots, counted, termed) (whole (lot_count s) (conditions s) out (omega (arith, needed)))
