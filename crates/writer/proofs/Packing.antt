-- A loop that adds conditions: those that are left, added to what there is now, come to all of them added at the start.
use Prim.Native.Nat.{suc, ◌+◌}
use mathlib.Core.List.{List, [], ◌∷◌, ◌++◌, flatten}
use mathlib.Core.Path.{◌≡◌, refl, sym, ap, subst, ◌∙◌}
use native.Mathlib.Omega.{arith}
use lib.ListN.{length, length-append}
use Rattle.sheet.specs.Conditions.{Term}
use Rattle.writer.specs.Drafts.{Draft, with_condition, with_terms, with_conditions, RoomFor, RoomForAll}
use Rattle.writer.proofs.Rooms.{length-condition, length-terms, room_less, room-condition, room-terms}

-- ---- the first of conditions

module _ (ts : List Term) (tss : List (List Term)) (d : Draft) (room : RoomForAll (ts ∷ tss) d) where
  counted : RoomFor (suc (length tss)) (length ts + length (flatten tss)) d
  unfolding flatten
  counted = rw (length-append ts (flatten tss)) at room

  -- There is room for it,
  room-first : RoomFor 1 (length ts) d
  room-first = room_less (suc (length tss)) (length ts + length (flatten tss)) d 1 (length ts) (omega arith) (omega arith) counted

  -- and behind it for the others.
  room-others : RoomForAll tss (with_terms ts (with_condition d))
  room-others = room-terms ts (length tss) (length (flatten tss)) (with_condition d) (room-condition (length tss) (length ts + length (flatten tss)) d counted)

-- ---- the loop

-- All conditions are added to `start`: it came to the draft d, and the conditions in `left` are left.
pub record Packing (all : List (List Term)) (start : Draft) (left : List (List Term)) (d : Draft) : Type 0 where
  pub rest : with_conditions left d ≡ with_conditions all start
  pub room : RoomForAll left d
  pub sized : length d.bytes ≡ length start.bytes

pub packing_start : (all : List (List Term)) (start : Draft) → RoomForAll all start → Packing all start all start
packing_start all start room = record { rest = refl; room = room; sized = refl }

module _ {all : List (List Term)} {start : Draft} {left : List (List Term)} {d : Draft} (l : Packing all start left d) where
  module _ {ts : List Term} {tss : List (List Term)} (one : left ≡ ts ∷ tss) where
    room-left : RoomForAll (ts ∷ tss) d
    room-left = subst (λ (us : List (List Term)). RoomForAll us d) one l.room

    -- There is room for one more,
    pub packing_room : RoomFor 1 (length ts) d
    packing_room = room-first ts tss d room-left

    -- and it is added.
    pub packing_next : Packing all start tss (with_terms ts (with_condition d))
    unfolding with_conditions
    packing_next =
        record {
          rest = sym (ap (λ (us : List (List Term)). with_conditions us d) one) ∙ l.rest;
          room = room-others ts tss d room-left;
          sized = length-terms ts (with_condition d) ∙ length-condition d ∙ l.sized;
        }

  -- All are added.
  pub packing_end : left ≡ [] → d ≡ with_conditions all start
  unfolding with_conditions
  packing_end none = sym (ap (λ (us : List (List Term)). with_conditions us d) none) ∙ l.rest

-- ---- one list behind another

pub conditions-append : (tss uss : List (List Term)) (d : Draft) → with_conditions (tss ++ uss) d ≡ with_conditions uss (with_conditions tss d)
unfolding with_conditions
conditions-append [] uss d = refl
conditions-append (ts ∷ tss) uss d = conditions-append tss uss (with_terms ts (with_condition d))

pub terms-append : (tss uss : List (List Term)) → length (flatten (tss ++ uss)) ≡ length (flatten tss) + length (flatten uss)
unfolding flatten
terms-append [] uss = omega arith
terms-append (ts ∷ tss) uss = omega (arith, length-append ts (flatten (tss ++ uss)), length-append ts (flatten tss), terms-append tss uss)

module _ (tss uss : List (List Term)) where
  -- Where there is room for both there is room for the first,
  pub room-front : (d : Draft) → RoomForAll (tss ++ uss) d → RoomForAll tss d
  room-front d room =
      room_less (length (tss ++ uss)) (length (flatten (tss ++ uss))) d (length tss) (length (flatten tss)) (omega (arith, length-append tss uss)) (omega (arith, terms-append tss uss)) room

-- and behind that for the second.
pub room_back : (tss uss : List (List Term)) (d : Draft) → RoomForAll (tss ++ uss) d → RoomForAll uss (with_conditions tss d)
unfolding with_conditions
room_back [] uss d room = room
room_back (ts ∷ tss) uss d room = room_back tss uss (with_terms ts (with_condition d)) (room-others ts (tss ++ uss) d room)
