-- A loop along a chain that makes the digest of its terms and counts them: with those that are left, they come to the digest and the number of all.
use Prim.Native.Nat.{ℕ, zero, suc, ◌+◌, ◌≤◌, ◌<◌}
use mathlib.Core.List.{List, [], ◌∷◌}
use mathlib.Core.Logic.{⊎_elim}
use mathlib.Core.Path.{◌≡◌, refl, sym, ap, ◌∙◌}
use native.Mathlib.Nat.{mod-lt}
use native.Mathlib.Omega.{arith}
use lib.ListN.{length, length-map}
use Rattle.sheet.specs.Format.{most_lots, most_records, apart_sign, record_count, sign_at, first_lot_at, second_lot_at, next_at}
use Rattle.sheet.specs.Checks.{Accepted}
use Rattle.sheet.specs.Conditions.{Term, sign_of, first_lot, second_lot, term_at, chain, records_from, terms_from}
use Rattle.sheet.specs.Inner.{OnChain}
use Rattle.sheet.proofs.Accepted.{sound}
use Rattle.sheet.proofs.ChainEnds.{terms_end, terms_step, next-on, on_sound}
use Rattle.repeats.specs.Inner.{digest_limit, digest_fields, digest_from, digest_of}
use Rattle.repeats.proofs.Fields.{FieldsOf, fields_of}

-- ---- digests are small

fields-small : (d sign a b : ℕ) → digest_fields d sign a b < digest_limit
fields-small d sign a b = mod-lt _ (omega arith)

from_small : (d : ℕ) (ts : List Term) → d < digest_limit → digest_from d ts < digest_limit
unfolding digest_from
from_small d [] h = h
from_small d (t ∷ ts) h = from_small (digest_fields d (sign_of t) (first_lot t) (second_lot t)) ts (fields-small d _ _ _)

pub digest-small : (ts : List Term) → digest_of ts < digest_limit
digest-small ts = from_small 0 ts (omega arith)

-- One term more, by its fields.
digest_term : (d : ℕ) (t : Term) (ts : List Term) (sign a b : ℕ) → FieldsOf t sign a b → digest_from d (t ∷ ts) ≡ digest_from (digest_fields d sign a b) ts
unfolding digest_from
digest_term d t ts sign a b fields = rw (fields.sign', fields.first, fields.second)

-- ---- a chain has no more terms than the sheet has records

chain-short : (s : List ℕ) (fuel r : ℕ) → length (chain s fuel r) ≤ fuel
unfolding chain
chain-short s zero r = omega arith
chain-short s (suc fuel) zero = omega arith
chain-short s (suc fuel) (suc r) = omega (arith, chain-short s fuel (next_at s (suc r)))

terms-short : (s : List ℕ) → Accepted s → (r : ℕ) → length (terms_from s r) ≤ most_records
unfolding terms_from records_from
terms-short s ok r =
    omega (arith, length-map (records_from s r) (term_at s), chain-short s (record_count s) r, (sound s ok).header.records)

-- ---- the loop

-- The chain from `head` on: up to record r there were k terms, with the digest d.
pub record Digesting (s : List ℕ) (head r d k : ℕ) : Type 0 where
  pub on : OnChain s r
  pub small : d < digest_limit
  pub digest : digest_from d (terms_from s r) ≡ digest_of (terms_from s head)
  pub terms : k + length (terms_from s r) ≡ length (terms_from s head)

pub digesting_start : (s : List ℕ) (head : ℕ) → OnChain s head → Digesting s head head 0 0
digesting_start s head on = record { on = on; small = omega arith; digest = refl; terms = omega arith }

module _ {s : List ℕ} {head r d k : ℕ} (l : Digesting s head r d k) where
  module _ (ok : Accepted s) (low : 1 ≤ r) where
    step : terms_from s r ≡ term_at s r ∷ terms_from s (next_at s r)
    step = terms_step s ok r low l.on.within

    -- Sign and lots of the record are as small as the digest wants them,
    pub record Small : Type 0 where
      pub sign : sign_at s r ≤ apart_sign
      pub first : first_lot_at s r ≤ most_lots
      pub second : second_lot_at s r ≤ most_lots

    pub small-fields : Small
    small-fields =
        let here = on_sound s ok r low l.on in
        let lots = (sound s ok).header.lots in
        record { sign = ⊎_elim (λ e. omega (arith, e)) (λ e. omega (arith, e)) here.sign; first = omega (arith, here.first.high, lots); second = omega (arith, here.second.high, lots) }

    -- there is room to count it,
    pub one_more : k + 1 ≤ most_records
    one_more = omega (arith, l.terms, ap length step, terms-short s ok head)

    -- and the loop goes on.
    pub digesting_next : Digesting s head (next_at s r) (digest_fields d (sign_at s r) (first_lot_at s r) (second_lot_at s r)) (k + 1)
    digesting_next =
        let fields = fields_of (sign_at s r) (first_lot_at s r) (second_lot_at s r) (on_sound s ok r low l.on).sign in
        let one = digest_term d (term_at s r) (terms_from s (next_at s r)) (sign_at s r) (first_lot_at s r) (second_lot_at s r) fields in
        record {
          on = next-on s ok r low l.on;
          small = fields-small d _ _ _;
          digest = sym one ∙ sym (ap (digest_from d) step) ∙ l.digest;
          terms = omega (arith, l.terms, ap length step);
        }

  -- The chain is over.
  pub digest-whole : r ≡ 0 → d ≡ digest_of (terms_from s head)
  unfolding digest_from
  digest-whole e = rw (e, terms_end s) at l.digest

  pub terms-whole : r ≡ 0 → k ≡ length (terms_from s head)
  terms-whole e = omega (arith, l.terms, ap length none)
    where
      none : terms_from s r ≡ []
      none = rw e (terms_end s)
