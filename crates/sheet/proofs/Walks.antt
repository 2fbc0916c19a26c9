-- The walk along chains: its steps, and that its fuel never decides.
use Prim.Native.Nat.{ℕ, zero, suc, ◌+◌, ◌≤◌, ◌<◌}
use mathlib.Core.Bool.{Bool, true, false, cond}
use mathlib.Core.List.{List, ◌∷◌}
use mathlib.Core.Logic.{◌⊎◌, inl, inr}
use mathlib.Core.Path.{◌≡◌, refl, ap}
use native.Mathlib.Omega.{arith}
use lib.Dec.{eqb}
use lib.ListN.{length}
use borrow.Author.Tests.{eq-eqb, ne_eqb}
use Rattle.sheet.specs.Verdicts.{Passes}
use Rattle.sheet.specs.Format.{lowest_lot, record_count, same_sign, apart_sign, sign_at, next_at, vacant}
use Rattle.sheet.specs.Checks.{check5, reached, twice, into_vacant, member, walk_chain, walk_chains}
use Rattle.sheet.proofs.Distinct.{Distinct, distinct_cons, distinct_length}
use Rattle.sheet.proofs.Vacant.{vacant_blank}
use Rattle.sheet.proofs.Accepted.{SoundRecord, records_found}

-- Every record's next is a record or the zero.
abbrev pub Linked : List ℕ → Type 0
Linked s = (r : ℕ) → 1 ≤ r → r ≤ record_count s → next_at s r ≤ record_count s

-- It is where check 5 passes: a vacant record's is zero.
pub vacant_or_linked : (s : List ℕ) (r : ℕ) → (vacant s r ≡ false → SoundRecord s r) → next_at s r ≤ record_count s
vacant_or_linked s r formed = go (vacant s r) refl
  where
    go : (b : Bool) → vacant s r ≡ b → next_at s r ≤ record_count s
    go true e = omega (arith, (vacant_blank s r e).next)
    go false e = (formed e).next

pub nexts_found : (s : List ℕ) → check5 lowest_lot s ≡ Passes → Linked s
nexts_found s five r low high = vacant_or_linked s r (records_found s five r low high)

-- There the sign tells whether a record is vacant.
pub vacant_or_signed : (s : List ℕ) (r : ℕ) → (vacant s r ≡ false → SoundRecord s r) → eqb (sign_at s r) 0 ≡ vacant s r
vacant_or_signed s r formed = go (vacant s r) refl
  where
    signed : (sign_at s r ≡ same_sign) ⊎ (sign_at s r ≡ apart_sign) → sign_at s r ≡ 0 → ⊥
    signed (inl e) z = omega arith
    signed (inr e) z = omega arith

    go : (b : Bool) → vacant s r ≡ b → eqb (sign_at s r) 0 ≡ b
    go true e = eq-eqb _ _ (vacant_blank s r e).sign
    go false e = ne_eqb _ _ (signed (formed e).sign)

pub signs_tell : (s : List ℕ) → check5 lowest_lot s ≡ Passes → (r : ℕ) → 1 ≤ r → r ≤ record_count s → eqb (sign_at s r) 0 ≡ vacant s r
signs_tell s five r low high = vacant_or_signed s r (records_found s five r low high)

-- ---- one chain

module _ (s : List ℕ) where
  -- At the zero.
  pub walk_end : (fuel : ℕ) (seen : List ℕ) → walk_chain s fuel seen 0 ≡ reached seen
  unfolding walk_chain
  walk_end zero seen = refl
  walk_end (suc fuel) seen = refl

  -- At a vacant record.
  pub walk_vacant : (fuel : ℕ) (seen : List ℕ) (r : ℕ) → 1 ≤ r → vacant s r ≡ true → walk_chain s (suc fuel) seen r ≡ into_vacant r
  unfolding walk_chain
  walk_vacant fuel seen zero low empty = absurd (omega arith)
  walk_vacant fuel seen (suc r) low empty = rw empty

  -- At another that was reached before.
  pub walk_twice : (fuel : ℕ) (seen : List ℕ) (r : ℕ) → 1 ≤ r → vacant s r ≡ false → member r seen ≡ true → walk_chain s (suc fuel) seen r ≡ twice r
  unfolding walk_chain
  walk_twice fuel seen zero low filled there = absurd (omega arith)
  walk_twice fuel seen (suc r) low filled there = rw (filled, there)

  -- At another that was not reached before.
  pub walk_more : (fuel : ℕ) (seen : List ℕ) (r : ℕ) → 1 ≤ r → vacant s r ≡ false → member r seen ≡ false
      → walk_chain s (suc fuel) seen r ≡ walk_chain s fuel (r ∷ seen) (next_at s r)
  unfolding walk_chain
  walk_more fuel seen zero low filled new = absurd (omega arith)
  walk_more fuel seen (suc r) low filled new = rw (filled, new)

  module _ (linked : Linked s) where
    -- Fuel past the records that were not yet reached is enough.
    settled : (fuel more : ℕ) {seen : List ℕ} → Distinct (record_count s) seen → (r : ℕ) → r ≤ record_count s
        → record_count s < fuel + length seen → record_count s < more + length seen
        → walk_chain s fuel seen r ≡ walk_chain s more seen r
    unfolding walk_chain
    settled zero more d r high f m = absurd (omega (arith, distinct_length d))
    settled (suc fuel) zero d r high f m = absurd (omega (arith, distinct_length d))
    settled (suc fuel) (suc more) d zero high f m = refl
    settled (suc fuel) (suc more) {seen} d (suc r) high f m = go (member (suc r) seen) refl
        (λ new. settled fuel more (distinct_cons (suc r) (omega arith) high new d) (next_at s (suc r)) (linked (suc r) (omega arith) high) (omega arith) (omega arith))
      where
        go : (b : Bool) → member (suc r) seen ≡ b
            → (member (suc r) seen ≡ false → walk_chain s fuel (suc r ∷ seen) (next_at s (suc r)) ≡ walk_chain s more (suc r ∷ seen) (next_at s (suc r)))
            → cond (vacant s (suc r)) (into_vacant (suc r)) (cond b (twice (suc r)) (walk_chain s fuel (suc r ∷ seen) (next_at s (suc r))))
            ≡ cond (vacant s (suc r)) (into_vacant (suc r)) (cond b (twice (suc r)) (walk_chain s more (suc r ∷ seen) (next_at s (suc r))))
        go true e ih = refl
        go false e ih = ap (cond (vacant s (suc r)) (into_vacant (suc r))) (ih e)

    -- Any fuel above k gives the same walk.
    pub walk_fuel : (fuel : ℕ) {seen : List ℕ} → Distinct (record_count s) seen → (r : ℕ) → r ≤ record_count s → record_count s < fuel
        → walk_chain s fuel seen r ≡ walk_chain s (suc (record_count s)) seen r
    walk_fuel fuel d r high enough = settled fuel (suc (record_count s)) d r high (omega arith) (omega arith)

-- ---- chain after chain

module _ (s : List ℕ) where
  -- After a record was reached a second time,
  pub chains_twice : (count c r : ℕ) → walk_chains s count c (twice r) ≡ twice r
  unfolding walk_chains
  chains_twice zero c r = refl
  chains_twice (suc count) c r = refl

  -- and after a vacant one.
  pub chains_vacant : (count c r : ℕ) → walk_chains s count c (into_vacant r) ≡ into_vacant r
  unfolding walk_chains
  chains_vacant zero c r = refl
  chains_vacant (suc count) c r = refl
