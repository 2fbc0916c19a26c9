-- Bytes that are made zero: these are, and all others stay.
use Prim.Native.Nat.{ℕ, zero, suc, ◌+◌, ◌≤◌, ◌<◌}
use mathlib.Core.Bool.{Bool, true, false}
use mathlib.Core.List.{List, [], ◌∷◌}
use mathlib.Core.Logic.{◌⊎◌, inl, inr}
use mathlib.Core.Path.{◌≡◌, refl, ap, ◌∙◌}
use native.Mathlib.Omega.{arith}
use lib.Dec.{eqb}
use lib.ListN.{length, get_or, set, length-set}
use lib.Seq.{get_or-set_other}
use borrow.Author.Tests.{eqb-true, eqb-false, eq-eqb}
use Rattle.sheet.specs.Format.{record_place}
use Rattle.sheet.proofs.Times.{bit, times}
use Rattle.withdraw.specs.Withdraw.{zeroed, blanked}

-- Place q is none of the `count` places from p on.
abbrev pub Off : ℕ → ℕ → ℕ → Type 0
Off count p q = (q < p) ⊎ (p + count ≤ q)

-- ---- one byte

set_zero : (s : List ℕ) (p : ℕ) → get_or (set s p 0) p 0 ≡ 0
set_zero [] p = refl
set_zero (x ∷ s) zero = refl
set_zero (x ∷ s) (suc p) = set_zero s p

-- A byte that is zero stays so.
set_stays : (s : List ℕ) (p q : ℕ) → get_or s q 0 ≡ 0 → get_or (set s p 0) q 0 ≡ 0
set_stays s p q e = go (eqb q p) refl
  where
    go : (b : Bool) → eqb q p ≡ b → get_or (set s p 0) q 0 ≡ 0
    go true h = ap (λ (i : ℕ). get_or (set s p 0) i 0) (eqb-true q p h) ∙ set_zero s p
    go false h = get_or-set_other s p q 0 0 (eqb-false q p h) ∙ e

-- ---- some bytes

pub length-zeroed : (count p : ℕ) (s : List ℕ) → length (zeroed count p s) ≡ length s
unfolding zeroed
length-zeroed zero p s = refl
length-zeroed (suc count) p s = length-zeroed count (suc p) (set s p 0) ∙ length-set s p 0

pub zeroed_off : (count p : ℕ) (s : List ℕ) (q : ℕ) → Off count p q → get_or (zeroed count p s) q 0 ≡ get_or s q 0
unfolding zeroed
zeroed_off zero p s q off = refl
zeroed_off (suc count) p s q (inl below) =
    zeroed_off count (suc p) (set s p 0) q (inl (omega arith)) ∙ get_or-set_other s p q 0 0 (λ e. omega arith)
zeroed_off (suc count) p s q (inr above) =
    zeroed_off count (suc p) (set s p 0) q (inr (omega arith)) ∙ get_or-set_other s p q 0 0 (λ e. omega arith)

zeroed_stays : (count p : ℕ) (s : List ℕ) (q : ℕ) → get_or s q 0 ≡ 0 → get_or (zeroed count p s) q 0 ≡ 0
unfolding zeroed
zeroed_stays zero p s q e = e
zeroed_stays (suc count) p s q e = zeroed_stays count (suc p) (set s p 0) q (set_stays s p q e)

pub zeroed-on : (count p : ℕ) (s : List ℕ) (q : ℕ) → p ≤ q → q < p + count → get_or (zeroed count p s) q 0 ≡ 0
unfolding zeroed
zeroed-on zero p s q low high = absurd (omega arith)
zeroed-on (suc count) p s q low high = go (eqb q p) refl (λ l. zeroed-on count (suc p) (set s p 0) q l (omega arith))
  where
    go : (b : Bool) → eqb q p ≡ b → (suc p ≤ q → get_or (zeroed count (suc p) (set s p 0)) q 0 ≡ 0) → get_or (zeroed count (suc p) (set s p 0)) q 0 ≡ 0
    go true h later = zeroed_stays count (suc p) (set s p 0) q (ap (λ (i : ℕ). get_or (set s p 0) i 0) (eqb-true q p h) ∙ set_zero s p)
    go false h later = later (omega (arith, eqb-false q p h))

-- ---- some records

module _ (m : ℕ) where
  -- A byte that is zero before.
  pub blanked_stays : (rs s : List ℕ) (q : ℕ) → get_or s q 0 ≡ 0 → get_or (blanked m rs s) q 0 ≡ 0
  unfolding blanked
  blanked_stays [] s q e = e
  blanked_stays (r ∷ rs) s q e = blanked_stays rs _ q (zeroed_stays _ _ s q e)

  -- A place in one of them.
  pub blanked-on : (rs s : List ℕ) (r q : ℕ) → 1 ≤ times r rs → record_place m r ≤ q → q < record_place m r + 8 → get_or (blanked m rs s) q 0 ≡ 0
  unfolding blanked times
  blanked-on [] s r q there low high = absurd (omega arith)
  blanked-on (x ∷ rs) s r q there low high = go (eqb r x) refl there (λ later. blanked-on rs _ r q later low high)
    where
      go : (b : Bool) → eqb r x ≡ b → 1 ≤ bit b + times r rs
          → (1 ≤ times r rs → get_or (blanked m (x ∷ rs) s) q 0 ≡ 0) → get_or (blanked m (x ∷ rs) s) q 0 ≡ 0
      go true e there ih =
          let place = ap (record_place m) (eqb-true r x e) in
          blanked_stays rs _ q (zeroed-on _ _ s q (omega arith) (omega arith))
      go false e there ih = ih (omega arith)

  -- A place in none of them.
  pub blanked_off : (rs s : List ℕ) (q : ℕ) → ((r : ℕ) → 1 ≤ times r rs → Off 8 (record_place m r) q) → get_or (blanked m rs s) q 0 ≡ get_or s q 0
  unfolding blanked times
  blanked_off [] s q off = refl
  blanked_off (r ∷ rs) s q off = blanked_off rs _ q (λ x there. off x (omega arith)) ∙ zeroed_off _ _ s q (off r (rw (eq-eqb r r refl) (omega arith)))

  -- Their length stays.
  pub length-blanked : (rs s : List ℕ) → length (blanked m rs s) ≡ length s
  unfolding blanked
  length-blanked [] s = refl
  length-blanked (r ∷ rs) s = length-blanked rs _ ∙ length-zeroed _ _ s
