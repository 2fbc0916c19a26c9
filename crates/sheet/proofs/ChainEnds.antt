-- Every chain of an accepted sheet ends, and reaches no vacant record; a chain's steps.
use Prim.Native.Nat.{ℕ, zero, suc, ◌+◌, ◌≤◌, ◌<◌}
use mathlib.Core.Bool.{Bool, true, false}
use mathlib.Core.List.{List, [], ◌∷◌}
use mathlib.Core.Path.{◌≡◌, refl, sym, ap, ◌∙◌}
use native.Mathlib.Omega.{arith}
use lib.Dec.{eqb}
use lib.ListN.{length}
use borrow.Author.Tests.{eqb-true, eq-eqb}
use Rattle.sheet.specs.Format.{condition_count, record_count, head_at, next_at, vacant}
use Rattle.sheet.specs.Checks.{Accepted}
use Rattle.sheet.specs.Conditions.{term_at, chain, records_from, terms_from}
use Rattle.sheet.proofs.Times.{bit, times, member_times}
use Rattle.sheet.proofs.Ranges.{some_along, each_along}
use Rattle.sheet.proofs.Distinct.{distinct_part, distinct_length}
use Rattle.sheet.specs.Inner.{OnChain}
use Rattle.sheet.proofs.Vacant.{vacant_blank}
use Rattle.sheet.proofs.Accepted.{SoundRecord, sound}
use Rattle.sheet.proofs.Reached.{linked, walked_chain, all_reached}

-- The chain from record r on comes to the zero after at most n records.
abbrev pub Ends : List ℕ → ℕ → ℕ → Type 0
Ends s n r = length (chain s (suc n) r) ≤ n

module _ (s : List ℕ) where
  chain_zero : (fuel : ℕ) → chain s fuel 0 ≡ []
  unfolding chain
  chain_zero zero = refl
  chain_zero (suc fuel) = refl

  -- From the zero on there is no record,
  pub records_end : records_from s 0 ≡ []
  unfolding records_from
  records_end = chain_zero (record_count s)

  -- and no term.
  pub terms_end : terms_from s 0 ≡ []
  unfolding terms_from
  terms_end = rw records_end

  -- Fuel past the end adds no record.
  settled : (n fuel r : ℕ) → Ends s n r → n ≤ fuel → chain s fuel r ≡ chain s n r
  unfolding chain
  settled zero fuel zero e h = chain_zero fuel
  settled zero fuel (suc r) e h = absurd (omega arith)
  settled (suc n) zero r e h = absurd (omega arith)
  settled (suc n) (suc fuel) zero e h = refl
  settled (suc n) (suc fuel) (suc r) e h = ap {B = List ℕ} (λ l. suc r ∷ l) (settled n fuel (next_at s (suc r)) (omega arith) (omega arith))

  ends_more : (n r : ℕ) → Ends s n r → Ends s (suc n) r
  ends_more n r e = omega (arith, ap length (settled n (suc n) r e (omega arith)), ap length (settled n (suc (suc n)) r e (omega arith)))

  -- A chain that ends does so from each of its records on.
  ends_later : (fuel n h r : ℕ) → Ends s n h → 1 ≤ times r (chain s fuel h) → Ends s n r
  unfolding chain times
  ends_later zero n h r e there = absurd (omega arith)
  ends_later (suc fuel) n zero r e there = absurd (omega arith)
  ends_later (suc fuel) zero (suc h) r e there = absurd (omega arith)
  ends_later (suc fuel) (suc n) (suc h) r e there = go (eqb r (suc h)) refl there (ends_later fuel n (next_at s (suc h)) r (omega arith))
    where
      go : (b : Bool) → eqb r (suc h) ≡ b → 1 ≤ bit b + times r (chain s fuel (next_at s (suc h)))
          → (1 ≤ times r (chain s fuel (next_at s (suc h))) → Ends s n r) → Ends s (suc n) r
      go true q there ih = rw (eqb-true r (suc h) q) e
      go false q there ih = ends_more n r (ih (omega arith))

  -- A chain goes on from each of its records.
  goes_on : (fuel h r q : ℕ) → 1 ≤ times r (chain s fuel h) → next_at s r ≡ suc q → 1 ≤ times (suc q) (chain s (suc fuel) h)
  unfolding chain times
  goes_on zero h r q there e = absurd (omega arith)
  goes_on (suc fuel) zero r q there e = absurd (omega arith)
  goes_on (suc fuel) (suc h) r q there e = go (eqb r (suc h)) refl there (λ t. goes_on fuel (next_at s (suc h)) r q t e)
    where
      go : (b : Bool) → eqb r (suc h) ≡ b → 1 ≤ bit b + times r (chain s fuel (next_at s (suc h)))
          → (1 ≤ times r (chain s fuel (next_at s (suc h))) → 1 ≤ times (suc q) (chain s (suc fuel) (next_at s (suc h))))
          → 1 ≤ bit (eqb (suc q) (suc h)) + times (suc q) (chain s (suc fuel) (next_at s (suc h)))
      go true b there ih = rw (sym (ap (next_at s) (eqb-true r (suc h) b)) ∙ e, eq-eqb (suc q) (suc q) refl) (omega arith)
      go false b there ih = omega (arith, ih (omega arith))

module _ (s : List ℕ) (ok : Accepted s) where
  -- The chain of a condition has distinct records, so at most k.
  head-ends : (c : ℕ) → 1 ≤ c → c ≤ condition_count s → Ends s (record_count s) (head_at s c)
  unfolding times
  head-ends c low high = distinct_length {xs = walked_chain s c} (distinct_part part (all_reached s ok).distinct)
    where
      part : (x : ℕ) → times x (walked_chain s c) ≤ times x (sound s ok).seen
      part x = omega (arith, each_along (walked_chain s) x (condition_count s) 1 c low (omega arith), (all_reached s ok).counts x)

  -- Each record that isn't vacant is on the chain of a condition,
  on_chain : (r : ℕ) → 1 ≤ r → r ≤ record_count s → vacant s r ≡ false → (c : ℕ) × (1 ≤ c) × (c < 1 + condition_count s) × (1 ≤ times r (walked_chain s c))
  unfolding times
  on_chain r low high filled =
      some_along (walked_chain s) r (condition_count s) 1
      (omega (arith, member_times r (sound s ok).seen ((sound s ok).every r low high filled), (all_reached s ok).counts r))

  -- and no other is.
  chain-filled : (c : ℕ) → 1 ≤ c → c ≤ condition_count s → (r : ℕ) → 1 ≤ times r (walked_chain s c) → vacant s r ≡ false
  chain-filled c low high r there =
      (all_reached s ok).filled r (omega (arith, each_along (walked_chain s) r (condition_count s) 1 c low (omega arith)))

  -- So a walk never comes to a vacant record, from the head on
  pub head-on : (c : ℕ) → 1 ≤ c → c ≤ condition_count s → OnChain s (head_at s c)
  unfolding chain times
  head-on c low high = record { within = (sound s ok).heads c low high; filled = λ some. go (head_at s c) refl some }
    where
      go : (h : ℕ) → head_at s c ≡ h → 1 ≤ h → vacant s h ≡ false
      go zero e some = absurd (omega arith)
      go (suc h) e some = chain-filled c low high (suc h) (rw (e, eq-eqb (suc h) (suc h) refl) (omega arith))

  -- by each next.
  pub next-on : (r : ℕ) → 1 ≤ r → OnChain s r → OnChain s (next_at s r)
  next-on r low on = record { within = linked s ok r low on.within; filled = λ some. go (next_at s r) refl some }
    where
      go : (n : ℕ) → next_at s r ≡ n → 1 ≤ n → vacant s n ≡ false
      go zero e some = absurd (omega arith)
      go (suc n) e some =
          let (c, least, up, there) = on_chain r low on.within (on.filled low) in
          let ends = head-ends c least (omega arith) in
          let k : ℕ = record_count s in
          let same = settled s k (suc (suc k)) (head_at s c) ends (omega arith) ∙ sym (settled s k (suc k) (head_at s c) ends (omega arith)) in
          chain-filled c least (omega arith) (suc n) (rw same at (goes_on s (suc k) (head_at s c) r n there e))

  -- The records that it comes to are in range.
  pub on_sound : (r : ℕ) → 1 ≤ r → OnChain s r → SoundRecord s r
  on_sound r low on = (sound s ok).records r low on.within (on.filled low)

  -- The chain from any record on ends: from a vacant one on, with that record.
  pub ends : (r : ℕ) → r ≤ record_count s → Ends s (record_count s) r
  unfolding chain
  ends zero high = omega arith
  ends (suc r) high = go (vacant s (suc r)) refl
    where
      alone : next_at s (suc r) ≡ 0 → Ends s (record_count s) (suc r)
      alone e = rw (e, chain_zero s (record_count s)) (omega arith)

      go : (b : Bool) → vacant s (suc r) ≡ b → Ends s (record_count s) (suc r)
      go true e = alone (vacant_blank s (suc r) e).next
      go false e =
          let (c, low, up, there) = on_chain (suc r) (omega arith) high e in
          ends_later s (suc (record_count s)) (record_count s) (head_at s c) (suc r) (head-ends c low (omega arith)) there

  -- Any fuel from k on gives the same chain.
  pub chain_fuel : (fuel r : ℕ) → r ≤ record_count s → record_count s ≤ fuel → chain s fuel r ≡ records_from s r
  unfolding records_from
  chain_fuel fuel r high enough = settled s (record_count s) fuel r (ends r high) enough

  -- From a record on: that record, and those from its next on;
  pub records_step : (r : ℕ) → 1 ≤ r → r ≤ record_count s → records_from s r ≡ r ∷ records_from s (next_at s r)
  unfolding records_from chain
  records_step zero low high = absurd (omega arith)
  records_step (suc r) low high = sym (chain_fuel (suc (record_count s)) (suc r) high (omega arith))

  -- its term, and those from its next on.
  pub terms_step : (r : ℕ) → 1 ≤ r → r ≤ record_count s → terms_from s r ≡ term_at s r ∷ terms_from s (next_at s r)
  unfolding terms_from
  terms_step r low high = rw (records_step r low high)

  -- So the rest of a chain is shorter.
  pub rest_shorter : (r : ℕ) → 1 ≤ r → r ≤ record_count s → length (records_from s (next_at s r)) < length (records_from s r)
  rest_shorter r low high = rw (records_step r low high) (omega arith)
