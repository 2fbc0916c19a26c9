-- The packed sheet (document 02, jobs 1 and 2): what it says, which sheets have the same, and that it has no vacant record.
use Prim.Native.Nat.{ℕ, ◌+◌, ◌*◌, ◌-◌, ◌≤◌}
use mathlib.Core.List.{List}
use mathlib.Core.Logic.{◌↔◌}
use mathlib.Core.Path.{◌≡◌, sym, ap, ap₂, ◌∙◌}
use native.Mathlib.Omega.{arith}
use lib.ListN.{length}
use Rattle.sheet.specs.Format.{lot_count, condition_count, record_count, head_at, filled_count}
use Rattle.sheet.specs.Checks.{Accepted}
use Rattle.sheet.specs.Conditions.{conditions}
use Rattle.sheet.proofs.Accepted.{sound}
use Rattle.sheet.proofs.Records.{filled_most}
use Rattle.sheet.proofs.Conditions.{conditions-length, terms-count}
use Rattle.canonical.specs.Canonical.{canonical, Within}
use Rattle.canonical.proofs.Limits.{accepted-within}
use Rattle.canonical.proofs.Canonical.{canonical-length, canonical-lots, canonical-records, canonical-accepted, canonical-conditions}
use Rattle.repack.specs.Promises.{Alike, ServedAlike}
use Rattle.repack.specs.Repack.{repacked, repacked_length}
use Rattle.repack.proofs.Alike.{alike_withdrawn, served_alike}

-- It has the packed length.
pub repacked-length : (s : List ℕ) → length (repacked s) ≡ repacked_length s
repacked-length s = canonical-length (lot_count s) (conditions s)

module _ (s : List ℕ) (ok : Accepted s) where
  within : Within (lot_count s) (conditions s)
  within = accepted-within s ok

  -- It is accepted, and has the sheet's lots and exactly its conditions;
  pub repacked_alike : Alike (repacked s) s
  repacked_alike =
      record {
        first = canonical-accepted (lot_count s) (conditions s) within;
        second = ok;
        lots = canonical-lots (lot_count s) (conditions s) within;
        lists = canonical-conditions (lot_count s) (conditions s) within;
      }

  -- so it is answered as the sheet is, number for number and byte for byte, but for k.
  pub repacked_served : ServedAlike (repacked s) s
  repacked_served = served_alike (repacked s) s repacked_alike

  -- "Repacking drops" vacant records: there are as many records as the sheet has that aren't vacant,
  pub repacked-records : record_count (repacked s) ≡ filled_count s
  repacked-records = canonical-records (lot_count s) (conditions s) within ∙ terms-count s ok

  -- none of them vacant,
  pub repacked-filled : filled_count (repacked s) ≡ record_count (repacked s)
  repacked-filled = repacked_served.filled ∙ sym repacked-records

  -- and the packed length is the sheet's less eight bytes for each vacant one,
  pub repacked_shorter : repacked_length s + 8 * (record_count s - filled_count s) ≡ length s
  repacked_shorter =
      omega (arith, conditions-length s, terms-count s ok, filled_most s (record_count s) 1, (sound s ok).header.whole)

  -- "and keeps struck heads in place": a condition's head is zero there exactly where it is here.
  pub repacked-heads : (c : ℕ) → 1 ≤ c → c ≤ condition_count s → (head_at s c ≡ 0 ↔ head_at (repacked s) c ≡ 0)
  repacked-heads c low high =
      let same = repacked_alike in
      alike_withdrawn s (repacked s) (record { first = same.second; second = same.first; lots = sym same.lots; lists = sym same.lists }) c low high

-- "Two sheets with equal lots and equal condition lists give equal bytes", accepted or not;
pub equal_lists : (s t : List ℕ) → lot_count s ≡ lot_count t → conditions s ≡ conditions t → repacked s ≡ repacked t
equal_lists s t n tss = ap₂ canonical n tss

-- "two that differ never do",
pub equal_bytes : (s t : List ℕ) → Accepted s → Accepted t → repacked s ≡ repacked t → (lot_count s ≡ lot_count t) × (conditions s ≡ conditions t)
equal_bytes s t ok ok' e =
    let p = repacked_alike s ok in
    let q = repacked_alike t ok' in
    (sym p.lots ∙ ap lot_count e ∙ q.lots, sym p.lists ∙ ap conditions e ∙ q.lists)

-- "and repacking a packed sheet changes no byte".
pub repacked-again : (s : List ℕ) → Accepted s → repacked (repacked s) ≡ repacked s
repacked-again s ok = let p = repacked_alike s ok in equal_lists (repacked s) s p.lots p.lists

-- So what the bytes are is decided by lots and conditions, and decides them.
pub repacked-exactly : (s t : List ℕ) → Accepted s → Accepted t → (repacked s ≡ repacked t ↔ (lot_count s ≡ lot_count t) × (conditions s ≡ conditions t))
repacked-exactly s t ok ok' = (equal_bytes s t ok ok', λ h. equal_lists s t h.0 h.1)
