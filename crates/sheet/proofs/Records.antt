-- Each record of an accepted sheet that isn't vacant lies on exactly one chain, once; a vacant one lies on none. So there are as many terms as such records.
use Prim.Native.Nat.{ℕ, zero, suc, ◌+◌, ◌≤◌, ◌<◌}
use mathlib.Core.Bool.{Bool, true, false, cond, false≢true}
use mathlib.Core.List.{List, ◌∷◌, map, flatten}
use mathlib.Core.Path.{◌≡◌, refl, sym, ap, ◌∙◌}
use native.Mathlib.Nat.{le_antisymm}
use native.Mathlib.Omega.{arith}
use lib.Dec.{eqb, leb}
use lib.ListN.{length}
use borrow.Author.Tests.{ne_eqb, leb-true, leb-false}
use Rattle.sheet.specs.Format.{condition_count, record_count, head_at, vacant, filled_records, filled_count}
use Rattle.sheet.specs.Checks.{Accepted, member}
use Rattle.sheet.specs.Conditions.{records_from, count_up}
use Rattle.sheet.proofs.Times.{bit, times, member_times, absent_times, no_longer}
use Rattle.sheet.proofs.Ranges.{map_agrees, times_range, range_times}
use Rattle.sheet.proofs.Distinct.{Distinct, distinct_part}
use Rattle.sheet.proofs.Accepted.{sound}
use Rattle.sheet.proofs.Reached.{walked_chain, all_reached}
use Rattle.sheet.proofs.ChainEnds.{chain_fuel}

-- The records of all chains, by condition.
abbrev pub all_records : List ℕ → List ℕ
all_records s = flatten (map (λ c. records_from s (head_at s c)) (count_up (condition_count s) 1))

-- ---- the records that aren't vacant

module _ (s : List ℕ) (x : ℕ) where
  -- A vacant record is none of them;
  vacant_times : vacant s x ≡ true → (count from : ℕ) → times x (filled_records s count from) ≡ 0
  unfolding filled_records times
  vacant_times e zero from = refl
  vacant_times e (suc count) from = go (vacant s from) refl (vacant_times e count (suc from))
    where
      rest : List ℕ
      rest = filled_records s count (suc from)

      go : (v : Bool) → vacant s from ≡ v → times x rest ≡ 0 → times x (cond v rest (from ∷ rest)) ≡ 0
      go true q ih = ih
      go false q ih = rw (ne_eqb x from (λ z. false≢true (sym q ∙ ap (vacant s) (sym z) ∙ e))) (omega arith)

  -- another stands there as often as it does among all.
  filled_times : vacant s x ≡ false → (count from : ℕ) → times x (filled_records s count from) ≡ times x (count_up count from)
  unfolding filled_records times count_up
  filled_times e zero from = refl
  filled_times e (suc count) from = go (vacant s from) refl (filled_times e count (suc from))
    where
      rest : List ℕ
      rest = filled_records s count (suc from)

      go : (v : Bool) → vacant s from ≡ v → times x rest ≡ times x (count_up count (suc from))
          → times x (cond v rest (from ∷ rest)) ≡ bit (eqb x from) + times x (count_up count (suc from))
      go true q ih = rw (ne_eqb x from (λ z. false≢true (sym e ∙ ap (vacant s) z ∙ q))) (omega arith)
      go false q ih = omega arith

-- There are at most k.
pub filled_most : (s : List ℕ) (count from : ℕ) → length (filled_records s count from) ≤ count
unfolding filled_records
filled_most s zero from = omega arith
filled_most s (suc count) from = go (vacant s from) (filled_most s count (suc from))
  where
    rest : List ℕ
    rest = filled_records s count (suc from)

    go : (v : Bool) → length rest ≤ count → length (cond v rest (from ∷ rest)) ≤ suc count
    go true h = omega arith
    go false h = omega arith

-- ---- the records of all chains

module _ (s : List ℕ) (ok : Accepted s) where
  -- They are what the checks' walk reached.
  as_walked : (x : ℕ) → times x (all_records s) ≡ times x (sound s ok).seen
  unfolding times
  as_walked x = omega (arith, (all_reached s ok).counts x, ap (λ (l : List (List ℕ)). times x (flatten l)) same_chains)
    where
      same_chains : map (walked_chain s) (count_up (condition_count s) 1) ≡ map (λ c. records_from s (head_at s c)) (count_up (condition_count s) 1)
      same_chains =
          map_agrees (walked_chain s) _ (condition_count s) 1
          (λ c low high. chain_fuel s ok (suc (record_count s)) (head_at s c) ((sound s ok).heads c low (omega arith)) (omega arith))

  -- No number stands there twice, and only records do;
  pub records_distinct : Distinct (record_count s) (all_records s)
  records_distinct = distinct_part (λ x. omega (arith, as_walked x)) (all_reached s ok).distinct

  -- each record that isn't vacant stands there once;
  pub filled-once : (r : ℕ) → 1 ≤ r → r ≤ record_count s → vacant s r ≡ false → times r (all_records s) ≡ 1
  filled-once r low high filled =
      omega (arith, as_walked r, records_distinct.once r, member_times r (sound s ok).seen ((sound s ok).every r low high filled))

  -- a vacant one doesn't.
  pub vacant_never : (r : ℕ) → vacant s r ≡ true → times r (all_records s) ≡ 0
  unfolding times
  vacant_never r e = go (leb 1 (times r (all_records s))) refl
    where
      go : (b : Bool) → leb 1 (times r (all_records s)) ≡ b → times r (all_records s) ≡ 0
      go true q =
          let there = leb-true 1 (times r (all_records s)) q in
          absurd (false≢true (sym ((all_reached s ok).filled r (omega (arith, as_walked r, (all_reached s ok).counts r))) ∙ e))
      go false q = omega (arith, leb-false 1 (times r (all_records s)) q)

  -- So they are the records that aren't vacant,
  as_filled : (x : ℕ) → times x (all_records s) ≡ times x (filled_records s (record_count s) 1)
  as_filled x = go (vacant s x) refl (leb 1 (times x (count_up (record_count s) 1))) refl
    where
      k : ℕ
      k = record_count s

      absent : times x (count_up k 1) < 1 → (b : Bool) → member x (all_records s) ≡ b → times x (all_records s) ≡ 0
      absent few true m = let (low, high) = records_distinct.range x m in absurd (omega (arith, range_times x k 1 low (omega arith)))
      absent few false m = absent_times x (all_records s) m

      go : (v : Bool) → vacant s x ≡ v → (b : Bool) → leb 1 (times x (count_up k 1)) ≡ b → times x (all_records s) ≡ times x (filled_records s k 1)
      go true e b q = vacant_never x e ∙ sym (vacant_times s x e k 1)
      go false e true q =
          let (low, high) = times_range x k 1 (leb-true 1 _ q) in
          omega (arith, filled-once x low (omega arith) e, filled_times s x e k 1, range_times x k 1 low high)
      go false e false q =
          let few = leb-false 1 (times x (count_up k 1)) q in
          omega (arith, absent few (member x (all_records s)) refl, filled_times s x e k 1)

  -- and as many as these.
  pub records-length : length (all_records s) ≡ filled_count s
  records-length =
      let filled : List ℕ = filled_records s (record_count s) 1 in
      le_antisymm (no_longer (all_records s) filled (λ x. omega (arith, as_filled x))) (no_longer filled (all_records s) (λ x. omega (arith, as_filled x)))
