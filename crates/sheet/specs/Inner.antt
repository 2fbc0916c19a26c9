-- For the contracts of inner functions, the reader's and those of services that read an accepted sheet; this file states nothing of document 01.
use Rattle.std.specs.Prelude.{ℕ, suc, ◌+◌, ◌-◌, ◌≤◌, Bool, false, not, ◌||◌, List, ◌≡◌, eqb, length, get_or}
use Rattle.buffers.specs.Bytes.{number}
use Rattle.sheet.specs.declared.Header.{Header}
use Rattle.sheet.specs.declared.Term.{Term}
use Rattle.sheet.specs.Verdicts.{Verdict, Passes, Refuses}
use Rattle.sheet.specs.Format.{most_lots, most_conditions, most_records, lot_count, condition_count, record_count, sheet_length, head_at, record_place, sign_at, first_lot_at, second_lot_at, next_at, vacant}
use Rattle.sheet.specs.Checks.{Walk, reached, twice, into_vacant, member, walk_chain, lowest_refusal, Accepted}

-- ---- the format, as the code's types have it

-- The header's counts.
abbrev pub header_at : List ℕ → Header
header_at s = record { lots = lot_count s; conditions = condition_count s; records = record_count s }

-- The term record r, without its spare byte.
abbrev pub term_record_at : List ℕ → ℕ → Term
term_record_at s r =
    record {
      sign = sign_at s r;
      a = record { 0 = first_lot_at s r };
      b = record { 0 = second_lot_at s r };
      next = record { 0 = next_at s r };
    }

-- Its sign and spare byte as one number of two bytes: the sign, where the spare byte is 0.
abbrev pub sign_spare_at : List ℕ → ℕ → ℕ
sign_spare_at s r = number s (record_place (condition_count s) r)

-- Record r stands whole in the bytes s, whose header counts m conditions.
pub record HasRecord (s : List ℕ) (m r : ℕ) : Type 0 where
  pub counted : m ≡ condition_count s
  pub least : 1 ≤ r
  pub whole : record_place m r + 8 ≤ length s

-- The bytes s have the header h, whose counts are within their limits, and the length that it gives: checks 1 to 3 have passed.
pub record HasHeader (s : List ℕ) (h : Header) : Type 0 where
  pub counts : h ≡ header_at s
  pub lots : lot_count s ≤ most_lots
  pub conditions : condition_count s ≤ most_conditions
  pub records : record_count s ≤ most_records
  pub whole : length s ≡ sheet_length (condition_count s) (record_count s)

-- The sheet is accepted, and has m conditions.
pub record HasConditions (s : List ℕ) (m : ℕ) : Type 0 where
  pub accepted : Accepted s
  pub counted : m ≡ condition_count s

-- Where a walk along a chain of an accepted sheet may be: at a record that isn't vacant, or at the zero.
pub record OnChain (s : List ℕ) (r : ℕ) : Type 0 where
  pub within : r ≤ record_count s
  pub filled : 1 ≤ r → vacant s r ≡ false

-- ---- flags of the records that a walk has reached: flag i is that of record i + 1, and 1 stands for "reached"

-- Whether record r is flagged.
abbrev pub is_flagged : List ℕ → ℕ → Bool
is_flagged flags r = eqb (get_or flags (r - 1) 0) 1

-- The flags stand for the records in `seen`.
pub record Flags (flags seen : List ℕ) : Type 0 where
  pub stand : (r : ℕ) → 1 ≤ r → r ≤ length flags → is_flagged flags r ≡ member r seen

-- Check 7 over flags: the lowest record that is neither vacant nor flagged.
unfoldable pub unflagged_verdict : List ℕ → List ℕ → Verdict
unflagged_verdict s flags = lowest_refusal 7 (λ r. not (vacant s r || is_flagged flags r)) (record_count s) 1

-- The bytes s have the header h; their records that have no sign are vacant, since check 5 has passed; and there is a flag for each record.
pub record Flaggable (s : List ℕ) (h : Header) (flags : List ℕ) : Type 0 where
  pub header : HasHeader s h
  pub signs : (r : ℕ) → 1 ≤ r → r ≤ record_count s → eqb (sign_at s r) 0 ≡ vacant s r
  pub room : length flags ≡ record_count s

-- What a walk needs of the bytes s, of which checks 1 to 5 have passed, and of the flags: it never leaves the records.
pub record Walkable (s : List ℕ) (h : Header) (flags : List ℕ) : Type 0 where
  pub flaggable : Flaggable s h flags
  pub heads : (c : ℕ) → 1 ≤ c → c ≤ condition_count s → head_at s c ≤ record_count s
  pub nexts : (r : ℕ) → 1 ≤ r → r ≤ record_count s → next_at s r ≤ record_count s

-- The walk along the chain from `head`, after the records `seen`, with the fuel that is enough.
abbrev pub one_chain : List ℕ → List ℕ → ℕ → Walk
one_chain s seen head = walk_chain s (suc (record_count s)) seen head

-- A walk's verdict, and the flags that it leaves where it passes.
abbrev pub WalkedTo : Walk → Verdict → List ℕ → Type 0
WalkedTo (reached seen) verdict flags = (verdict ≡ Passes) × Flags flags seen
WalkedTo (twice r) verdict flags = verdict ≡ Refuses 6 r
WalkedTo (into_vacant r) verdict flags = verdict ≡ Refuses 17 r
