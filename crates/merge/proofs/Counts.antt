-- The entries of two accepted sheets have the conditions of the result: the room for them, and the whole of what is written.
use Prim.Native.Nat.{ℕ, ◌-◌, ◌≤◌}
use mathlib.Core.List.{List, ◌++◌, flatten}
use mathlib.Core.Path.{◌≡◌, sym, ap, ap₂, ◌∙◌}
use native.Mathlib.Omega.{arith}
use lib.ListN.{length, take, drop}
use Rattle.buffers.specs.Written.{written}
use Rattle.sheet.specs.Format.{most_conditions, most_records, sheet_length}
use Rattle.sheet.specs.Conditions.{Term}
use Rattle.writer.specs.Drafts.{Draft, begun, with_conditions, RoomForAll}
use Rattle.writer.proofs.Rooms.{room-begun}
use Rattle.writer.proofs.Packing.{conditions-append, room-front, room_back}
use Rattle.writer.proofs.Whole.{whole}
use Rattle.repeats.specs.declared.kept.Both.{Both}
use Rattle.repeats.specs.Repeats.{has_terms, merged_conditions}
use Rattle.repeats.specs.Inner.{kept_of, Entered}
use Rattle.repeats.proofs.Entries.{lent}
use Rattle.merge.specs.Merge.{merged_lots, merged, merged_length}

module _ {s t entries : List ℕ} {r : Both} (l : Entered s t entries r) where
  -- Where the counts of the entries are ones that 18 lets pass, so are those of the result.
  pub few : r.upto ≤ most_conditions → length (merged_conditions has_terms s t) ≤ most_conditions
  few h = omega (arith, h, l.conditions')

  pub short : r.terms ≤ most_records → length (flatten (merged_conditions has_terms s t)) ≤ most_records
  short h = omega (arith, h, l.terms)

  -- The length needed is that of a sheet with their counts.
  pub needed : sheet_length r.upto r.terms ≡ merged_length has_terms s t
  needed = ap₂ sheet_length l.conditions' l.terms

  module _ (out : List ℕ) (n : ℕ) (terms-few : r.terms ≤ most_records) (fits : sheet_length r.upto r.terms ≤ length out) where
    abbrev mine' : List (List Term)
    mine' = kept_of s (take r.first entries)

    abbrev others' : List (List Term)
    others' = kept_of t (take (r.upto - r.first) (drop r.first entries))

    both : mine' ++ others' ≡ merged_conditions has_terms s t
    both = ap (λ (es : List ℕ). mine' ++ kept_of t es) (lent l.others) ∙ l.result

    abbrev header : Draft
    header = begun n r.upto r.terms out

    -- Behind the header there is room for those of the first sheet,
    room : RoomForAll (mine' ++ others') header
    room = rw (both, ← l.conditions', ← l.terms) (room-begun n r.upto r.terms out terms-few fits)

    pub room-mine : RoomForAll mine' header
    room-mine = room-front mine' others' header room

    -- and behind them for those of the second;
    pub room-others : RoomForAll others' (with_conditions mine' header)
    room-others = room_back mine' others' header room

    -- all of them, behind the header, are the merged sheet.
    pub counts_whole : n ≡ merged_lots s t → (with_conditions others' (with_conditions mine' header)).bytes ≡ written (merged has_terms s t) out
    counts_whole lots =
        ap (λ (d : Draft). d.bytes) (sym (conditions-append mine' others' header))
        ∙ rw (both, lots, l.conditions', l.terms) (whole (merged_lots s t) (merged_conditions has_terms s t) out (omega (arith, needed)))
