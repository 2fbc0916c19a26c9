-- A loop along two chains, term by term: the terms passed are equal, so what is left of both decides.
use Prim.Native.Nat.{ℕ, ◌≤◌}
use mathlib.Core.Bool.{Bool, true, false, ◌&&◌}
use mathlib.Core.List.{List}
use mathlib.Core.Path.{◌≡◌, refl, ◌∙◌}
use native.Mathlib.Omega.{arith}
use borrow.Author.Tests.{eqb-true, eqb-false}
use lib.Dec.{eqb}
use Rattle.sheet.specs.Format.{sign_at, first_lot_at, second_lot_at, next_at}
use Rattle.sheet.specs.Checks.{Accepted}
use Rattle.sheet.specs.Conditions.{term_at, terms_from}
use Rattle.sheet.specs.Inner.{term_record_at, OnChain}
use Rattle.sheet.proofs.ChainEnds.{terms_end, terms_step, next-on, on_sound}
use Rattle.repeats.specs.Repeats.{equal_terms, equal_conditions}
use Rattle.repeats.specs.Inner.{equal_fields}
use Rattle.repeats.proofs.Fields.{fields_of}

-- The chains from `head` and `other` on are compared, and now those from the records p and q on.
pub record Comparing (s t : List ℕ) (head other p q : ℕ) : Type 0 where
  pub first : OnChain s p
  pub second : OnChain t q
  pub rest : equal_conditions (terms_from s head) (terms_from t other) ≡ equal_conditions (terms_from s p) (terms_from t q)

module _ {s t : List ℕ} {head other p q : ℕ} (l : Comparing s t head other p q) (ok : Accepted s) (ok' : Accepted t) where
  -- The first chain is over: they are equal where the second is over too.
  pub first_over : p ≡ 0 → equal_conditions (terms_from s head) (terms_from t other) ≡ eqb q 0
  unfolding equal_conditions
  first_over e = l.rest ∙ go (eqb q 0) refl
    where
      go : (b : Bool) → eqb q 0 ≡ b → equal_conditions (terms_from s p) (terms_from t q) ≡ b
      go true f = rw (e, eqb-true q 0 f, terms_end s, terms_end t)
      go false f = rw (e, terms_end s, terms_step t ok' q (omega (arith, eqb-false q 0 f)) l.second.within)

  -- The second alone is over: they differ.
  pub second_over : 1 ≤ p → q ≡ 0 → equal_conditions (terms_from s head) (terms_from t other) ≡ false
  unfolding equal_conditions
  second_over low f = l.rest ∙ rw (f, terms_end t, terms_step s ok p low l.first.within)

  module _ (low : 1 ≤ p) (low' : 1 ≤ q) where
    step : equal_conditions (terms_from s head) (terms_from t other)
        ≡ (equal_terms (term_at s p) (term_at t q) && equal_conditions (terms_from s (next_at s p)) (terms_from t (next_at t q)))
    unfolding equal_conditions
    step = l.rest ∙ rw (terms_step s ok p low l.first.within, terms_step t ok' q low' l.second.within)

    -- The two terms, by their fields: sign, first lot, second lot.
    compared : equal_terms (term_at s p) (term_at t q) ≡ equal_fields (term_record_at s p) (term_record_at t q)
    unfolding equal_terms
    compared =
        let mine = fields_of (sign_at s p) (first_lot_at s p) (second_lot_at s p) (on_sound s ok p low l.first).sign in
        let other = fields_of (sign_at t q) (first_lot_at t q) (second_lot_at t q) (on_sound t ok' q low' l.second).sign in
        rw (mine.sign', mine.first, mine.second, other.sign', other.first, other.second)

    -- They differ, and so do the conditions;
    pub terms_differ : equal_fields (term_record_at s p) (term_record_at t q) ≡ false → equal_conditions (terms_from s head) (terms_from t other) ≡ false
    terms_differ e = step ∙ rw (compared ∙ e)

    -- or they are equal, and the loop goes on.
    pub comparing_next : equal_fields (term_record_at s p) (term_record_at t q) ≡ true → Comparing s t head other (next_at s p) (next_at t q)
    comparing_next e = record { first = next-on s ok p low l.first; second = next-on t ok' q low' l.second; rest = step ∙ rw (compared ∙ e) }
