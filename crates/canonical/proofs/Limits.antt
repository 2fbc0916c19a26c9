-- What an accepted sheet says is within the limits, so it has a canonical sheet.
use Prim.Native.Nat.{ℕ}
use mathlib.Core.List.{List}
use native.Mathlib.Omega.{arith}
use Rattle.sheet.specs.Format.{lot_count}
use Rattle.sheet.specs.Checks.{Accepted}
use Rattle.sheet.specs.Conditions.{conditions}
use Rattle.sheet.proofs.Accepted.{sound}
use Rattle.sheet.proofs.Conditions.{conditions-length, terms-length, conditions_in}
use Rattle.canonical.specs.Canonical.{Within}

pub accepted-within : (s : List ℕ) → Accepted s → Within (lot_count s) (conditions s)
accepted-within s ok =
    let header = (sound s ok).header in
    record {
      lots = header.lots;
      conditions = rw (conditions-length s) header.conditions;
      records = omega (arith, terms-length s ok, header.records);
      terms = conditions_in s ok;
    }
