-- A loop along a chain of a sheet that adds its terms: those that are left, added to what there is now, come to all of them added at the start.
use Prim.Native.Nat.{ℕ, suc, ◌≤◌}
use mathlib.Core.List.{List, [], ◌∷◌}
use mathlib.Core.Path.{◌≡◌, sym, ap, ◌∙◌}
use native.Mathlib.Omega.{arith}
use lib.ListN.{length}
use Rattle.sheet.specs.Format.{next_at}
use Rattle.sheet.specs.Checks.{Accepted}
use Rattle.sheet.specs.Conditions.{Term, term_at, terms_from}
use Rattle.sheet.specs.Inner.{OnChain}
use Rattle.sheet.proofs.ChainEnds.{terms_end, terms_step, next-on}
use Rattle.writer.specs.Drafts.{Draft, with_term, with_terms, RoomFor}
use Rattle.writer.proofs.Rooms.{length_term, room_less, room_term}

-- The chain from `head` on is being added to `start`: the draft is now d, and the terms from record r on are left.
pub record Adding (s : List ℕ) (head : ℕ) (start : Draft) (r : ℕ) (d : Draft) : Type 0 where
  pub on : OnChain s r
  pub rest : with_terms (terms_from s r) d ≡ with_terms (terms_from s head) start
  pub room : RoomFor 0 (length (terms_from s r)) d
  pub sized : length d.bytes ≡ length start.bytes

module _ {s : List ℕ} {head : ℕ} {start : Draft} {r : ℕ} {d : Draft} (l : Adding s head start r d) where
  module _ (ok : Accepted s) (least : 1 ≤ r) where
    -- One term is left, and those from its next on:
    step : terms_from s r ≡ term_at s r ∷ terms_from s (next_at s r)
    step = terms_step s ok r least l.on.within

    left : RoomFor 0 (suc (length (terms_from s (next_at s r)))) d
    left = rw step at l.room

    -- there is room for it,
    pub adding_room : RoomFor 0 1 d
    adding_room = room_less 0 (suc (length (terms_from s (next_at s r)))) d 0 1 (omega arith) (omega arith) left

    -- and it is added.
    pub adding_next : Adding s head start (next_at s r) (with_term (term_at s r) d)
    unfolding with_terms
    adding_next =
        record {
          on = next-on s ok r least l.on;
          rest = sym (ap (λ (ts : List Term). with_terms ts d) step) ∙ l.rest;
          room = room_term 0 (length (terms_from s (next_at s r))) d (term_at s r) left;
          sized = length_term (term_at s r) d ∙ l.sized;
        }

  -- The chain is over: all are added.
  pub adding_end : r ≡ 0 → d ≡ with_terms (terms_from s head) start
  unfolding with_terms
  adding_end e =
      let none : terms_from s r ≡ [] = rw e (terms_end s) in
      sym (ap (λ (ts : List Term). with_terms ts d) none) ∙ l.rest
