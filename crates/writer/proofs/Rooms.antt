-- Room for conditions and terms: each part takes its share, and no part changes the length of the bytes.
use Prim.Native.Nat.{ℕ, suc, ◌+◌, ◌≤◌}
use mathlib.Core.List.{List, [], ◌∷◌, ◌++◌}
use mathlib.Core.Path.{◌≡◌, refl, ◌∙◌}
use native.Mathlib.Omega.{arith}
use lib.ListN.{length}
use lib.Seq.{sets, length-sets}
use Rattle.buffers.specs.Bytes.{two_bytes}
use Rattle.sheet.specs.Format.{most_records, sheet_length}
use Rattle.sheet.specs.Conditions.{Term}
use Rattle.canonical.specs.Canonical.{term_record}
use Rattle.writer.specs.Drafts.{Draft, begun, with_condition, with_term, with_terms, RoomFor}

-- ---- how long

pub length_term : (t : Term) (d : Draft) → length (with_term t d).bytes ≡ length d.bytes
length_term t d =
    let w = d.writer in
    length-sets (sets d.bytes w.place (term_record t 0)) w.link (two_bytes w.number.0) ∙ length-sets d.bytes w.place (term_record t 0)

pub length-condition : (d : Draft) → length (with_condition d).bytes ≡ length d.bytes
length-condition d = length-sets d.bytes d.writer.head (two_bytes 0)

pub length-terms : (ts : List Term) (d : Draft) → length (with_terms ts d).bytes ≡ length d.bytes
unfolding with_terms
length-terms [] d = refl
length-terms (t ∷ ts) d = length-terms ts (with_term t d) ∙ length_term t d

-- ---- how much is left

module _ (c k : ℕ) (d : Draft) where
  -- Less is enough where more is,
  pub room_less : (c' k' : ℕ) → c' ≤ c → k' ≤ k → RoomFor c k d → RoomFor c' k' d
  room_less c' k' h l room =
      record {
        heads = omega (arith, room.heads);
        leads = room.leads;
        records = omega (arith, room.records);
        numbers = omega (arith, room.numbers);
      }

  -- after a condition,
  pub room-condition : RoomFor (suc c) k d → RoomFor c k (with_condition d)
  room-condition room =
      record {
        heads = omega (arith, room.heads);
        leads = omega (arith, room.heads);
        records = omega (arith, room.records, length-condition d);
        numbers = room.numbers;
      }

  -- and after a term.
  pub room_term : (t : Term) → RoomFor c (suc k) d → RoomFor c k (with_term t d)
  room_term t room =
      record {
        heads = omega (arith, room.heads);
        leads = omega arith;
        records = omega (arith, room.records, length_term t d);
        numbers = omega (arith, room.numbers);
      }

-- After a condition's terms.
pub room-terms : (ts : List Term) (c k : ℕ) (d : Draft) → RoomFor c (length ts + k) d → RoomFor c k (with_terms ts d)
unfolding with_terms
room-terms [] c k d room = room_less c (0 + k) d c k (omega arith) (omega arith) room
room-terms (t ∷ ts) c k d room =
    let left = room_less c (suc (length ts) + k) d c (suc (length ts + k)) (omega arith) (omega arith) room in
    room-terms ts c k (with_term t d) (room_term c (length ts + k) d t left)

-- At the start there is room for a sheet that is no longer than the output.
pub room-begun : (n m k : ℕ) (out : List ℕ) → k ≤ most_records → sheet_length m k ≤ length out → RoomFor m k (begun n m k out)
room-begun n m k out few room =
    record {
      heads = omega arith;
      leads = omega arith;
      records = omega (arith, length-sets out 0 (two_bytes n ++ two_bytes m ++ two_bytes k));
      numbers = omega arith;
    }
