-- A loop over the terms of a chain that leaves at the first term of which a test is true: of every term that it has passed the test is false. The laws speak
-- of terms and not of a condition, since a loop may begin in the middle of a chain, and what is left of one is no condition.
use Prim.Native.Nat.{ℕ, ◌≤◌}
use mathlib.Core.Bool.{Bool, true, false}
use mathlib.Core.List.{List, [], ◌∷◌, ◌++◌, append-nil, append_assoc}
use mathlib.Core.Path.{◌≡◌, refl, sym, ap, ◌∙◌}
use Rattle.sheet.specs.Format.{next_at}
use Rattle.sheet.specs.Checks.{Accepted}
use Rattle.sheet.specs.Conditions.{Term, term_at, terms_from}
use Rattle.sheet.specs.Inner.{OnChain}
use Rattle.buffers.specs.Lists.{All}
use Rattle.buffers.proofs.Lists.{all_both}
use Rattle.sheet.proofs.ChainEnds.{terms_end, terms_step, next-on}
use Rattle.equality.specs.Meaning.{any_term}
use Rattle.equality.proofs.Some.{any_here, any_false, any_past}

-- Of the chain from `head` on, the test is false of the terms before record `at`.
pub record Passing (q : Term → Bool) (s : List ℕ) (head at : ℕ) : Type 0 where
  pub on : OnChain s at
  pub passed : List Term
  pub falses : All (λ t. q t ≡ false) passed
  pub place : terms_from s head ≡ passed ++ terms_from s at

pub passing_start : (q : Term → Bool) (s : List ℕ) (head : ℕ) → OnChain s head → Passing q s head head
passing_start q s head h = record { on = h; passed = []; falses = tt; place = refl }

-- What a loop passes from where another has left follows what that one has passed.
pub passing_through : {q : Term → Bool} {s : List ℕ} {head between at : ℕ} → Passing q s head between → Passing q s between at → Passing q s head at
passing_through {q} {s} {at = at} k l =
    record {
      on = l.on;
      passed = k.passed ++ l.passed;
      falses = all_both (λ t. q t ≡ false) k.passed l.passed k.falses l.falses;
      place =
          k.place
          ∙ ap (λ (ts : List Term). k.passed ++ ts) l.place
          ∙ sym (append_assoc k.passed l.passed (terms_from s at));
    }

module _ (q : Term → Bool) (s : List ℕ) (ok : Accepted s) (head at : ℕ) (l : Passing q s head at) where
  stepped : 1 ≤ at → terms_from s head ≡ l.passed ++ term_at s at ∷ terms_from s (next_at s at)
  stepped h = l.place ∙ ap (λ (ts : List Term). l.passed ++ ts) (terms_step s ok at h l.on.within)

  -- One that is true is found;
  pub found : 1 ≤ at → q (term_at s at) ≡ true → any_term q (terms_from s head) ≡ true
  found h e = rw (stepped h) (any_here q l.passed (term_at s at) (terms_from s (next_at s at)) e)

  -- another is passed;
  pub passing_next : 1 ≤ at → q (term_at s at) ≡ false → Passing q s head (next_at s at)
  passing_next h e =
      record {
        on = next-on s ok at h l.on;
        passed = l.passed ++ term_at s at ∷ [];
        falses = all_both (λ t. q t ≡ false) l.passed (term_at s at ∷ []) l.falses (e, tt);
        place = stepped h ∙ sym (append_assoc l.passed (term_at s at ∷ []) (terms_from s (next_at s at)));
      }

  -- and where the chain ends, there is none.
  pub ended : at ≡ 0 → any_term q (terms_from s head) ≡ false
  ended e =
      let whole : terms_from s head ≡ l.passed =
      l.place ∙ ap (λ (r : ℕ). l.passed ++ terms_from s r) e ∙ ap (λ (ts : List Term). l.passed ++ ts) (terms_end s) ∙ append-nil l.passed in
      rw whole (any_false q l.passed l.falses)

  -- What is left decides.
  pub left_decides : any_term q (terms_from s head) ≡ any_term q (terms_from s at)
  left_decides = rw l.place (any_past q l.passed (terms_from s at) l.falses)
