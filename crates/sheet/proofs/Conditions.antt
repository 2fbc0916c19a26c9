-- The conditions as a list; how many terms they have, and that every term names lots that it may.
use Prim.Native.Nat.{ℕ, zero, suc, ◌+◌, ◌≤◌, ◌<◌}
use mathlib.Core.Bool.{Bool, true, false, cond}
use mathlib.Core.List.{List, [], ◌∷◌, map, flatten, map-append}
use mathlib.Core.Path.{◌≡◌, refl, sym, ap, ◌∙◌}
use native.Mathlib.Omega.{arith}
use lib.Dec.{eqb}
use lib.ListN.{length, get_or, drop, length-map, drop_of_length-le}
use lib.Seq.{drop-cons}
use Rattle.sheet.specs.Format.{lot_count, condition_count, record_count, head_at, same_sign, sign_at, first_lot_at, second_lot_at, next_at, filled_count}
use Rattle.sheet.specs.Checks.{Accepted}
use Rattle.sheet.specs.Conditions.{Term, same, apart, InLots, BothLots, TermIn, term_at, chain, records_from, terms_from, count_up, condition_at, conditions}
use Rattle.sheet.proofs.Ranges.{length_along, get_or_along, all_along}
use Rattle.buffers.specs.Lists.{All}
use Rattle.sheet.specs.Inner.{OnChain}
use Rattle.sheet.proofs.Accepted.{sound}
use Rattle.sheet.proofs.ChainEnds.{terms_end, terms_step, on_sound, head-on, next-on}
use Rattle.sheet.proofs.Records.{all_records, filled_most, records-length}

-- ---- the list of conditions

map-flatten : {A B : Type 0} (g : A → B) (f : ℕ → List A) (l : List ℕ) → flatten (map (λ c. map g (f c)) l) ≡ map g (flatten (map f l))
unfolding flatten
map-flatten g f [] = refl
map-flatten g f (c ∷ l) = rw (map-flatten g f l) (sym (map-append g (f c) (flatten (map f l))))

module _ (s : List ℕ) where
  -- There are m.
  pub conditions-length : length (conditions s) ≡ condition_count s
  unfolding conditions
  conditions-length = length_along (condition_at s) (condition_count s) 1

  -- Condition c + 1 stands at place c.
  pub conditions_at : (c : ℕ) → c < condition_count s → get_or (conditions s) c [] ≡ condition_at s (suc c)
  unfolding conditions
  conditions_at c h = get_or_along (condition_at s) (condition_count s) 1 c [] h ∙ (let e : 1 + c ≡ suc c = omega arith in rw e)

  -- A loop over them: one more,
  pub conditions_step : (c : ℕ) → c < condition_count s → drop c (conditions s) ≡ condition_at s (suc c) ∷ drop (suc c) (conditions s)
  conditions_step c h = drop-cons (conditions s) c [] (omega (arith, conditions-length)) ∙ rw (conditions_at c h)

  -- and past the last.
  pub conditions_end : (c : ℕ) → condition_count s ≤ c → drop c (conditions s) ≡ []
  conditions_end c h = drop_of_length-le (conditions s) {i = c} (omega (arith, conditions-length))

  -- A condition whose head is zero, a withdrawn one, has no term.
  pub withdrawn-empty : (c : ℕ) → head_at s c ≡ 0 → condition_at s c ≡ []
  withdrawn-empty c e = ap (terms_from s) e ∙ terms_end s

  -- Their terms are those of the records of all chains.
  pub terms_all : flatten (conditions s) ≡ map (term_at s) (all_records s)
  unfolding conditions terms_from
  terms_all = map-flatten (term_at s) (λ c. records_from s (head_at s c)) (count_up (condition_count s) 1)

-- ---- the terms of an accepted sheet

module _ (s : List ℕ) (ok : Accepted s) where
  -- There are as many terms as records that aren't vacant, since each of these lies on exactly one chain, once;
  pub terms-count : length (flatten (conditions s)) ≡ filled_count s
  terms-count = rw (terms_all s) (length-map (all_records s) (term_at s) ∙ records-length s ok)

  -- so at most k, which is all that most laws need.
  pub terms-length : length (flatten (conditions s)) ≤ record_count s
  terms-length = omega (arith, terms-count, filled_most s (record_count s) 1)

  -- No condition but the withdrawn ones has no term.
  pub empty-withdrawn : (c : ℕ) → 1 ≤ c → c ≤ condition_count s → condition_at s c ≡ [] → head_at s c ≡ 0
  empty-withdrawn c low high none = go (head_at s c) refl
    where
      go : (h : ℕ) → head_at s c ≡ h → h ≡ 0
      go zero e = refl
      go (suc h) e =
          let step = terms_step s ok (suc h) (omega arith) (omega (arith, (sound s ok).heads c low high)) in
          absurd (omega (arith, ap length (sym none ∙ ap (terms_from s) e ∙ step)))

-- ---- what holds of each term of an accepted sheet

-- What holds of a record's two lots holds of both lots of its term.
pub both-lots : (P : ℕ → Type 0) (s : List ℕ) (r : ℕ) → P (first_lot_at s r) → P (second_lot_at s r) → BothLots P (term_at s r)
both-lots P s r first second = go (eqb (sign_at s r) same_sign)
  where
    go : (b : Bool) → BothLots P (cond b (same (first_lot_at s r) (second_lot_at s r)) (apart (first_lot_at s r) (second_lot_at s r)))
    go true = (first, second)
    go false = (first, second)

module _ (s : List ℕ) (ok : Accepted s) (P : Term → Type 0) (each : (r : ℕ) → 1 ≤ r → OnChain s r → P (term_at s r)) where
  chain-each : (fuel r : ℕ) → OnChain s r → All P (map (term_at s) (chain s fuel r))
  unfolding chain
  chain-each zero r on = tt
  chain-each (suc fuel) zero on = tt
  chain-each (suc fuel) (suc r) on = (each (suc r) (omega arith) on, chain-each fuel (next_at s (suc r)) (next-on s ok (suc r) (omega arith) on))

  -- What holds of the terms of all records on chains holds of those of a chain,
  pub terms-each : (r : ℕ) → OnChain s r → All P (terms_from s r)
  unfolding terms_from records_from
  terms-each r on = chain-each (record_count s) r on

  -- and of those of all conditions.
  pub conditions-each : All (All P) (conditions s)
  unfolding conditions
  conditions-each =
      all_along (condition_at s) (All P) (condition_count s) 1 (λ c low high. terms-each (head_at s c) (head-on s ok c low (omega arith)))

-- So all terms name lots that they may.
module _ (s : List ℕ) (ok : Accepted s) where
  pub term_in : (r : ℕ) → 1 ≤ r → OnChain s r → TermIn (lot_count s) (term_at s r)
  term_in r low on = let fields = on_sound s ok r low on in both-lots (InLots (lot_count s)) s r fields.first fields.second

  pub terms_in : (r : ℕ) → OnChain s r → All (TermIn (lot_count s)) (terms_from s r)
  terms_in r on = terms-each s ok (TermIn (lot_count s)) term_in r on

  pub conditions_in : All (All (TermIn (lot_count s))) (conditions s)
  conditions_in = conditions-each s ok (TermIn (lot_count s)) term_in
