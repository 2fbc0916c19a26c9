-- The table within its bytes: with a bit set, and the bytes around it.
use Prim.Native.Nat.{ℕ, ◌%◌, ◌^◌, ◌≤◌, ◌<◌}
use mathlib.Core.Bool.{Bool, true, false, ◌&&◌, ◌||◌, false≢true}
use mathlib.Core.List.{List}
use mathlib.Core.Path.{◌≡◌, refl, sym, ap, ◌∙◌}
use native.Mathlib.Omega.{arith}
use borrow.Author.Tests.{eqb-true, eqb-false, eq-eqb, ne_eqb}
use lib.Bits.{bit_or}
use lib.Dec.{eqb}
use lib.ListN.{get_or, length-set}
use lib.Seq.{get_or-set_same, get_or-set_other}
use Rattle.sheet.specs.Format.{most_lots}
use Rattle.marks.specs.Marks.{bit_of, place, bit_at, with_bit, Room, Outside, MarkedToo}
use Rattle.marks.proofs.Bits.{or_bit}

-- ---- the bytes around the table

pub outside-none : (l : List ℕ) (at : ℕ) → Outside l l at
outside-none l at = record { size = refl; front = λ i h. refl; back = λ i h. refl }

pub outside_then : {before between after : List ℕ} {at : ℕ} → Outside before between at → Outside between after at → Outside before after at
outside_then p q =
    record {
      size = q.size ∙ p.size;
      front = λ i h. q.front i h ∙ p.front i h;
      back = λ i h. q.back i h ∙ p.back i h;
    }

-- ---- one bit

-- Where two equations cannot both hold, not both tests pass.
not-both : (a b c d : ℕ) → (a ≡ b → c ≡ d → ⊥) → (eqb a b && eqb c d) ≡ false
not-both a b c d n = go (eqb a b) (eqb c d) refl refl
  where
    go : (p q : Bool) → eqb a b ≡ p → eqb c d ≡ q → (p && q) ≡ false
    go true true e f = absurd (n (eqb-true a b e) (eqb-true c d f))
    go true false e f = refl
    go false q e f = refl

module _ (at x y u v : ℕ) (hx : x < y) (hy : y ≤ most_lots) (hu : u < v) (hv : v ≤ most_lots) where
  -- Two bits of the table are one only if both classes are the same,
  same_row : place at u v ≡ place at x y → v ≡ y
  same_row e = omega arith

  same_bit : place at u v ≡ place at x y → u % 8 ≡ x % 8 → u ≡ x
  same_bit e f = omega arith

  -- and so says the test on both classes.
  one_byte : place at u v ≡ place at x y → eqb (u % 8) (x % 8) ≡ (eqb u x && eqb v y)
  one_byte e = go (eqb (u % 8) (x % 8)) refl
    where
      go : (p : Bool) → eqb (u % 8) (x % 8) ≡ p → p ≡ (eqb u x && eqb v y)
      go true f = sym (rw (eq-eqb v y (same_row e), eq-eqb u x (same_bit e (eqb-true (u % 8) (x % 8) f))))
      go false f =
          let other : eqb u x ≡ false = ne_eqb u x (λ g. eqb-false (u % 8) (x % 8) f (omega arith)) in
          sym (rw other)

  two_bytes_lem : (place at u v ≡ place at x y → ⊥) → (eqb u x && eqb v y) ≡ false
  two_bytes_lem n = not-both u x v y (λ e f. n (omega arith))

  -- A bit is set, or another one.
  bit_set : (l : List ℕ) → Room l at → bit_at (with_bit l at u v) at x y ≡ (eqb u x && eqb v y || bit_at l at x y)
  bit_set l room = go (eqb (place at u v) (place at x y)) refl
    where
      go : (p : Bool) → eqb (place at u v) (place at x y) ≡ p → bit_at (with_bit l at u v) at x y ≡ (eqb u x && eqb v y || bit_at l at x y)
      go true f =
          let here : place at u v ≡ place at x y = eqb-true (place at u v) (place at x y) f in
          rw (← here)
          (ap (λ (b : ℕ). bit_of b (x % 8)) (get_or-set_same l (place at u v) (bit_or (get_or l (place at u v) 0) (2 ^ (u % 8))) 0 (omega arith))
          ∙ or_bit (get_or l (place at u v) 0) (u % 8) (x % 8)
          ∙ ap (λ (p : Bool). p || bit_of (get_or l (place at u v) 0) (x % 8)) (one_byte here))
      go false f =
          let other = eqb-false (place at u v) (place at x y) f in
          ap (λ (b : ℕ). bit_of b (x % 8)) (get_or-set_other l (place at u v) (place at x y) (bit_or (get_or l (place at u v) 0) (2 ^ (u % 8))) 0 (λ e. other (sym e)))
          ∙ sym (rw (two_bytes_lem other))

bit_outside : (l : List ℕ) (at x y : ℕ) → x < y → y ≤ most_lots → Outside l (with_bit l at x y) at
bit_outside l at x y hx hy =
    record {
      size = simp length-set;
      front = λ i h. get_or-set_other l (place at x y) i _ 0 (λ e. omega arith);
      back = λ i h. get_or-set_other l (place at x y) i _ 0 (λ e. omega arith);
    }

-- ---- two classes, in whichever order

-- The smaller stands first,
pub marked-first : (l : List ℕ) (at x y : ℕ) → Room l at → x < y → y ≤ most_lots → MarkedToo l (with_bit l at x y) at x y
marked-first l at x y room hx hy =
    record {
      bits = λ u v hu hv. bit_set at u v x y hu hv hx hy l room ∙ sym (rw (not-both x v y u (λ e f. omega arith)) (beside (eqb x u && eqb y v) (bit_at l at u v)));
      outside = bit_outside l at x y hx hy;
    }
  where
    beside : (p b : Bool) → ((p || false) || b) ≡ (p || b)
    beside true b = refl
    beside false b = refl

-- or the larger,
pub marked-second : (l : List ℕ) (at x y : ℕ) → Room l at → y < x → x ≤ most_lots → MarkedToo l (with_bit l at y x) at x y
marked-second l at x y room hy hx =
    record {
      bits = λ u v hu hv.
          bit_set at u v y x hu hv hy hx l room
          ∙ turned (eqb y u) (eqb x v) (eqb x u) (eqb y v) (bit_at l at u v) (not-both y v x u (λ e f. omega arith));
      outside = bit_outside l at y x hy hx;
    }
  where
    turned : (p q r s b : Bool) → (s && r) ≡ false → (p && q || b) ≡ ((r && s || q && p) || b)
    turned p q true true b e = absurd (false≢true (sym e))
    turned true true true false b e = refl
    turned true false true false b e = refl
    turned false true true false b e = refl
    turned false false true false b e = refl
    turned true true false s b e = refl
    turned true false false s b e = refl
    turned false true false s b e = refl
    turned false false false s b e = refl
