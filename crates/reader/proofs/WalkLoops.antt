-- The walk's loops, along one chain and over all conditions; and what checks 17, 6 and 7 make of the walk.
use Prim.Native.Nat.{ℕ, suc, ◌+◌, ◌-◌, ◌≤◌, ◌<◌}
use mathlib.Core.Bool.{Bool, true, false, not, ◌||◌}
use mathlib.Core.List.{List, [], ◌∷◌}
use mathlib.Core.Path.{◌≡◌, refl, sym, ap, ◌∙◌}
use native.Mathlib.Numerals.{add-one}
use native.Mathlib.Omega.{arith}
use lib.ListN.{length, get_or, set, length-set}
use borrow.Author.Tests.{eq-eqb, ne_eqb}
use Rattle.sheet.specs.Verdicts.{Verdict, Passes, Refuses}
use Rattle.sheet.specs.Format.{condition_count, record_count, head_at, next_at, vacant}
use Rattle.sheet.specs.Checks.{Walk, reached, twice, into_vacant, member, walk_chain, walk_chains, walked, chains_verdict, reached_by, or_else, lowest_refusal, check17_and6, check7}
use Rattle.sheet.specs.Inner.{Flags, is_flagged, one_chain, WalkedTo, unflagged_verdict}
use Rattle.sheet.proofs.Verdicts.{not-both, lowest_agrees}
use Rattle.sheet.proofs.Walks.{walk_end, walk_vacant, walk_twice, walk_more, chains_twice, chains_vacant}
use Rattle.reader.proofs.Flags.{unflagged, unflagged_le, unflagged_falls, flag}

-- ---- along one chain

-- The walk goes on at record r: the flags stand for what it has seen, and it has fuel for each record that is not flagged.
pub record Ahead (s flags : List ℕ) (r : ℕ) (walk : Walk) : Type 0 where
  pub fuel : ℕ
  pub seen : List ℕ
  pub stand : Flags flags seen
  pub enough : unflagged flags ≤ fuel
  pub rest : walk ≡ walk_chain s (suc fuel) seen r

-- One chain's loop, which began at `head` with `flags₀`: whatever those stood for, the walk goes on at record r.
pub record Walking (s flags₀ : List ℕ) (head : ℕ) (flags : List ℕ) (r : ℕ) : Type 0 where
  pub room : length flags ≡ record_count s
  pub within : r ≤ record_count s
  pub ahead : (seen : List ℕ) → Flags flags₀ seen → Ahead s flags r (one_chain s seen head)

pub begun : (s flags : List ℕ) (head : ℕ) → length flags ≡ record_count s → head ≤ record_count s → Walking s flags head flags head
begun s flags head room within =
    record {
      room = room;
      within = within;
      ahead = λ seen stand.
          record {
            fuel = record_count s;
            seen = seen;
            stand = stand;
            enough = omega (arith, unflagged_le flags);
            rest = refl;
          };
    }

module _ {s flags₀ : List ℕ} {head : ℕ} {flags : List ℕ} {r : ℕ} (w : Walking s flags₀ head flags r) where
  pub ended : r ≡ 0 → (seen : List ℕ) → Flags flags₀ seen → WalkedTo (one_chain s seen head) Passes flags
  ended e seen stand =
      let a = w.ahead seen stand in
      rw (a.rest, e, walk_end) (refl, a.stand)

  module _ (some : r ≡ 0 → ⊥) where
    among : r ≤ length flags
    among = omega (arith, w.room, w.within)

    pub nothing : vacant s r ≡ true → (seen : List ℕ) → Flags flags₀ seen → WalkedTo (one_chain s seen head) (Refuses 17 r) flags
    nothing e seen stand =
        let a = w.ahead seen stand in
        rw (a.rest ∙ walk_vacant s a.fuel a.seen r (omega arith) e)

    pub hit : vacant s r ≡ false → get_or flags (r - 1) 0 ≡ 1 → (seen : List ℕ) → Flags flags₀ seen → WalkedTo (one_chain s seen head) (Refuses 6 r) flags
    hit filled e seen stand =
        let a = w.ahead seen stand in
        let known : member r a.seen ≡ true = sym (a.stand.stand r (omega arith) among) ∙ eq-eqb _ _ e in
        rw (a.rest ∙ walk_twice s a.fuel a.seen r (omega arith) filled known)

    module _ (f : get_or flags (r - 1) 0 ≡ 1 → ⊥) where
      pub fewer : unflagged (set flags (r - 1) 1) < unflagged flags
      fewer = unflagged_falls flags (r - 1) (omega (arith, among)) f

      pub more : vacant s r ≡ false → next_at s r ≤ record_count s → Walking s flags₀ head (set flags (r - 1) 1) (next_at s r)
      more filled linked =
          record {
            room = length-set flags (r - 1) 1 ∙ w.room;
            within = linked;
            ahead = λ seen stand.
                let a = w.ahead seen stand in
                let fresh : member r a.seen ≡ false = sym (a.stand.stand r (omega arith) among) ∙ ne_eqb _ _ f in
                record {
                  fuel = a.fuel - 1;
                  seen = r ∷ a.seen;
                  stand = flag (omega arith) among a.stand;
                  enough = omega (arith, fewer, a.enough);
                  rest = a.rest ∙ walk_more s a.fuel a.seen r (omega arith) filled fresh
                      ∙ ap (λ (n : ℕ). walk_chain s n (r ∷ a.seen) (next_at s r)) (omega (arith, fewer, a.enough));
                };
          }

-- ---- over all conditions

-- The loop over conditions, at condition c: the flags stand for what the chains before c have seen.
pub record Chaining (s flags : List ℕ) (c : ℕ) : Type 0 where
  pub room : length flags ≡ record_count s
  pub least : 1 ≤ c
  pub most : c ≤ condition_count s + 1
  pub seen : List ℕ
  pub stand : Flags flags seen
  pub rest : walked s ≡ walk_chains s (condition_count s + 1 - c) c (reached seen)

pub none_yet : (s : List ℕ) {flags : List ℕ} → length flags ≡ record_count s → Flags flags [] → Chaining s flags 1
unfolding walked
none_yet s room stand =
    record {
      room = room;
      least = omega arith;
      most = omega arith;
      seen = [];
      stand = stand;
      rest = ap (λ (n : ℕ). walk_chains s n 1 (reached [])) (omega arith);
    }

module _ {s flags : List ℕ} {c : ℕ} (i : Chaining s flags c) where
  pub all_walked : condition_count s < c → WalkedTo (walked s) Passes flags
  unfolding walk_chains
  all_walked past =
      let none : condition_count s + 1 - c ≡ 0 = omega (arith, i.most) in
      rw (i.rest, none) (refl, i.stand)

  module _ (within : c ≤ condition_count s) where
    -- The chain of condition c is walked next.
    next-chain : walked s ≡ walk_chains s (condition_count s - c) (c + 1) (one_chain s i.seen (head_at s c))
    unfolding walk_chains
    next-chain =
        let one_more : condition_count s + 1 - c ≡ suc (condition_count s - c) = omega arith in
        i.rest ∙ rw (one_more, add-one)

    -- Where it refuses, so does the whole walk, with whatever flags.
    pub chain-refused : {v : Verdict} {check place : ℕ} → v ≡ Refuses check place → (after : List ℕ)
        → WalkedTo (one_chain s i.seen (head_at s c)) v after → WalkedTo (walked s) v after
    chain-refused {v} {check} {place} told after = go (one_chain s i.seen (head_at s c)) next-chain
      where
        go : (w : Walk) → walked s ≡ walk_chains s (condition_count s - c) (c + 1) w → WalkedTo w v after → WalkedTo (walked s) v after
        go (reached seen) e same = absurd (not-both same.0 told)
        go (twice r) e same = rw (e, chains_twice) same
        go (into_vacant r) e same = rw (e, chains_vacant) same

    pub chain-passed : {v : Verdict} → v ≡ Passes → {after : List ℕ} → length after ≡ record_count s
        → WalkedTo (one_chain s i.seen (head_at s c)) v after → Chaining s after (c + 1)
    chain-passed {v} told {after} room = go (one_chain s i.seen (head_at s c)) next-chain
      where
        go : (w : Walk) → walked s ≡ walk_chains s (condition_count s - c) (c + 1) w → WalkedTo w v after → Chaining s after (c + 1)
        go (reached seen) e same =
            record {
              room = room;
              least = omega arith;
              most = omega arith;
              seen = seen;
              stand = same.1;
              rest = e ∙ ap (λ (n : ℕ). walk_chains s n (c + 1) (reached seen)) (omega arith);
            }
        go (twice r) e same = absurd (not-both told same)
        go (into_vacant r) e same = absurd (not-both told same)

-- ---- checks 17, 6 and 7, from what the walk along all chains says

module _ (s : List ℕ) {v : Verdict} where
  pub walk_refused : {check place : ℕ} → v ≡ Refuses check place → (flags : List ℕ) → WalkedTo (walked s) v flags
      → v ≡ or_else (check17_and6 s) (check7 s)
  unfolding check17_and6
  walk_refused {check} {place} told flags = go (walked s) refl
    where
      go : (w : Walk) → walked s ≡ w → WalkedTo w v flags → v ≡ or_else (chains_verdict (walked s)) (check7 s)
      go (reached seen) e same = absurd (not-both same.0 told)
      go (twice r) e same = rw e same
      go (into_vacant r) e same = rw e same

  pub walk_passed : v ≡ Passes → (flags : List ℕ) → length flags ≡ record_count s → WalkedTo (walked s) v flags
      → unflagged_verdict s flags ≡ or_else (check17_and6 s) (check7 s)
  unfolding check17_and6 check7 unflagged_verdict
  walk_passed told flags room = go (walked s) refl
    where
      go : (w : Walk) → walked s ≡ w → WalkedTo w v flags
          → unflagged_verdict s flags
          ≡ or_else (chains_verdict (walked s)) (lowest_refusal 7 (λ r. not (vacant s r || member r (reached_by (walked s)))) (record_count s) 1)
      go (reached seen) e same =
          rw e
          (lowest_agrees 7 (λ r. not (vacant s r || is_flagged flags r)) (λ r. not (vacant s r || member r seen)) (record_count s) 1
          (λ r low high. ap (λ (b : Bool). not (vacant s r || b)) (same.1.stand r low (omega arith))))
      go (twice r) e same = absurd (not-both told same)
      go (into_vacant r) e same = absurd (not-both told same)
