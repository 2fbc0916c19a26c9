-- Which records a walk reaches: those of the chains, each once.
use Prim.Native.Nat.{ℕ, zero, suc, ◌+◌, ◌≤◌, ◌<◌}
use mathlib.Core.Bool.{Bool, true, false, cond}
use mathlib.Core.List.{List, [], ◌∷◌, ◌++◌, map, flatten}
use mathlib.Core.Path.{◌≡◌, refl, sym, ap, ◌∙◌}
use native.Mathlib.Omega.{arith}
use Rattle.sheet.specs.Format.{condition_count, record_count, head_at, next_at, vacant}
use Rattle.sheet.specs.Checks.{Accepted, Walk, reached, twice, into_vacant, member, walk_chain, walk_chains, walked}
use Rattle.sheet.specs.Conditions.{chain, count_up}
use lib.Dec.{eqb, leb}
use borrow.Author.Tests.{eqb-true, leb-true, leb-false}
use Rattle.sheet.proofs.Times.{bit, times, times_append}
use Rattle.sheet.proofs.Distinct.{Distinct, distinct_nil, distinct_cons}
use Rattle.sheet.proofs.Accepted.{sound}
use Rattle.sheet.proofs.Walks.{Linked, vacant_or_linked, chains_twice, chains_vacant}

-- After the records `seen`, a walk has reached `records` and no other, all distinct and none of them vacant.
pub record Reaches (s seen records out : List ℕ) : Type 0 where
  pub distinct : Distinct (record_count s) out
  pub counts : (x : ℕ) → times x out ≡ times x records + times x seen
  pub filled : (x : ℕ) → 1 ≤ times x records → vacant s x ≡ false

-- The chain of condition c, with the walk's fuel.
abbrev pub walked_chain : List ℕ → ℕ → List ℕ
walked_chain s c = chain s (suc (record_count s)) (head_at s c)

-- A walk that was stopped has reached no end.
stopped : {r : ℕ} {out : List ℕ} → twice r ≡ reached out → ⊥
stopped e = let z : ◌≡◌ {A = ℕ} 0 1 = cc in omega arith

stopped_vacant : {r : ℕ} {out : List ℕ} → into_vacant r ≡ reached out → ⊥
stopped_vacant e = let z : ◌≡◌ {A = ℕ} 0 1 = cc in omega arith

module _ {s : List ℕ} where
  reaches_none : {seen out : List ℕ} → Distinct (record_count s) seen → reached seen ≡ reached out → Reaches s seen [] out
  unfolding times
  reaches_none {seen} {out} d e =
      let q : seen ≡ out = cc in
      record { distinct = rw q at d; counts = λ x. rw q (omega arith); filled = λ x there. absurd (omega arith) }

  reaches_one : {r : ℕ} {seen : List ℕ} → Distinct (record_count s) (r ∷ seen) → vacant s r ≡ false → Reaches s seen (r ∷ []) (r ∷ seen)
  unfolding times
  reaches_one {r} d here = record { distinct = d; counts = λ x. omega arith; filled = λ x there. go x (eqb x r) refl there }
    where
      go : (x : ℕ) (b : Bool) → eqb x r ≡ b → 1 ≤ bit b + 0 → vacant s x ≡ false
      go x true e there = ap (vacant s) (eqb-true x r e) ∙ here
      go x false e there = absurd (omega arith)

  reaches_then : {seen first mid rest out : List ℕ} → Reaches s seen first mid → Reaches s mid rest out → Reaches s seen (first ++ rest) out
  reaches_then {first} {rest} a b =
      record {
        distinct = b.distinct;
        counts = λ x. omega (arith, a.counts x, b.counts x, times_append x first rest);
        filled = λ x there. go x (leb 1 (times x first)) refl (omega (arith, times_append x first rest));
      }
    where
      go : (x : ℕ) (c : Bool) → leb 1 (times x first) ≡ c → 1 ≤ times x first + times x rest → vacant s x ≡ false
      go x true e there = a.filled x (leb-true 1 (times x first) e)
      go x false e there = b.filled x (omega (arith, leb-false 1 (times x first) e))

module _ (s : List ℕ) (linked : Linked s) where
  -- One chain.
  pub walk_reaches : (fuel : ℕ) {seen : List ℕ} (out : List ℕ) → Distinct (record_count s) seen → (r : ℕ) → r ≤ record_count s → walk_chain s fuel seen r ≡ reached out
      → Reaches s seen (chain s fuel r) out
  unfolding walk_chain chain
  walk_reaches zero out d r high e = reaches_none d e
  walk_reaches (suc fuel) out d zero high e = reaches_none d e
  walk_reaches (suc fuel) {seen} out d (suc r) high e =
      go (vacant s (suc r)) refl (member (suc r) seen) refl e (λ d'. walk_reaches fuel out d' (next_at s (suc r)) (linked (suc r) (omega arith) high))
    where
      go : (v : Bool) → vacant s (suc r) ≡ v → (b : Bool) → member (suc r) seen ≡ b
          → cond v (into_vacant (suc r)) (cond b (twice (suc r)) (walk_chain s fuel (suc r ∷ seen) (next_at s (suc r)))) ≡ reached out
          → (Distinct (record_count s) (suc r ∷ seen) → walk_chain s fuel (suc r ∷ seen) (next_at s (suc r)) ≡ reached out
          → Reaches s (suc r ∷ seen) (chain s fuel (next_at s (suc r))) out)
          → Reaches s seen (suc r ∷ chain s fuel (next_at s (suc r))) out
      go true f b m e ih = absurd (stopped_vacant e)
      go false f true m e ih = absurd (stopped e)
      go false f false m e ih =
          let d' : Distinct (record_count s) (suc r ∷ seen) = distinct_cons (suc r) (omega arith) high m d in
          reaches_then (reaches_one d' f) (ih d' e)

  -- Chain after chain.
  pub chains_reach : (count c : ℕ) {seen : List ℕ} (out : List ℕ) → Distinct (record_count s) seen
      → ((i : ℕ) → c ≤ i → i < c + count → head_at s i ≤ record_count s) → walk_chains s count c (reached seen) ≡ reached out
      → Reaches s seen (flatten (map (walked_chain s) (count_up count c))) out
  unfolding walk_chains count_up flatten
  chains_reach zero c out d heads e = reaches_none d e
  chains_reach (suc count) c {seen} out d heads e =
      go (walk_chain s (suc (record_count s)) seen (head_at s c)) refl e (λ mid d'. chains_reach count (suc c) out d' (λ i low high. heads i (omega arith) (omega arith)))
    where
      rest : List ℕ
      rest = flatten (map (walked_chain s) (count_up count (suc c)))

      go : (w : Walk) → walk_chain s (suc (record_count s)) seen (head_at s c) ≡ w → walk_chains s count (suc c) w ≡ reached out
          → ((mid : List ℕ) → Distinct (record_count s) mid → walk_chains s count (suc c) (reached mid) ≡ reached out → Reaches s mid rest out)
          → Reaches s seen (walked_chain s c ++ rest) out
      go (twice r) w e ih = absurd (stopped (sym (chains_twice s count (suc c) r) ∙ e))
      go (into_vacant r) w e ih = absurd (stopped_vacant (sym (chains_vacant s count (suc c) r) ∙ e))
      go (reached mid) w e ih =
          let first = walk_reaches (suc (record_count s)) mid d (head_at s c) (heads c (omega arith) (omega arith)) w in
          reaches_then first (ih mid first.distinct e)

module _ (s : List ℕ) (ok : Accepted s) where
  -- An accepted sheet is linked,
  pub linked : Linked s
  linked r low high = vacant_or_linked s r ((sound s ok).records r low high)

  -- and its walk has reached the records of its chains.
  pub all_reached : Reaches s [] (flatten (map (walked_chain s) (count_up (condition_count s) 1))) (sound s ok).seen
  unfolding walked
  all_reached =
      chains_reach s linked (condition_count s) 1 (sound s ok).seen (distinct_nil (record_count s))
      (λ c low high. (sound s ok).heads c low (omega arith)) (sound s ok).walk
