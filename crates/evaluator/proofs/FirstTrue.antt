-- The loop over a condition's terms, which ends at the first true one (document 02, job 3): its invariant, and that under this it reaches no term past the
-- first true one, however many there are.
use Prim.Native.Nat.{ℕ, suc, ◌+◌, ◌≤◌}
use mathlib.Core.Bool.{true, false, cond}
use mathlib.Core.List.{List, [], ◌∷◌, ◌++◌}
use mathlib.Core.Path.{◌≡◌, ap, ◌∙◌}
use native.Mathlib.Omega.{arith}
use lib.Dec.{eqb}
use lib.ListN.{length, length-append}
use borrow.Author.Tests.{ne_eqb}
use Rattle.buffers.specs.Lists.{All}
use Rattle.sheet.specs.Checks.{Accepted}
use Rattle.sheet.specs.Conditions.{Term, term_at, terms_from}
use Rattle.sheet.proofs.ChainEnds.{terms_end, terms_step}
use Rattle.equality.specs.Meaning.{holds}
use Rattle.equality.proofs.Passing.{Passing}

-- "every term it has passed is false": the terms of the chain from `head` on before record `at`, by the numbers that f gives the lots. `passed` has those
-- terms, `falses` says of each that it is false.
abbrev pub EveryTermPassedIsFalse : (ℕ → ℕ) → List ℕ → ℕ → ℕ → Type 0
EveryTermPassedIsFalse f s head at = Passing (holds f) s head at

-- How many terms stand before the first true one; all of them where none is true.
unfoldable pub before_first_true : (ℕ → ℕ) → List Term → ℕ
before_first_true f [] = 0
before_first_true f (t ∷ ts) = cond (holds f t) 0 (suc (before_first_true f ts))

past_false : (f : ℕ → ℕ) (passed after : List Term) → All (λ t. holds f t ≡ false) passed
    → before_first_true f (passed ++ after) ≡ length passed + before_first_true f after
unfolding before_first_true
past_false f [] after none = omega arith
past_false f (t ∷ passed) after none = rw none.0 (omega (arith, past_false f passed after none.1))

here_true : (f : ℕ → ℕ) (t : Term) (ts : List Term) → holds f t ≡ true → before_first_true f (t ∷ ts) ≡ 0
unfolding before_first_true
here_true f t ts e = rw e

module _ (f : ℕ → ℕ) {s : List ℕ} {head at : ℕ} (l : EveryTermPassedIsFalse f s head at) where
  -- A condition with a term where the loop stands is not withdrawn.
  pub not-withdrawn : Accepted s → 1 ≤ at → eqb head 0 ≡ false
  not-withdrawn ok low =
      let whole = ap length l.place ∙ length-append l.passed (terms_from s at) in
      let here = ap length (terms_step s ok at low l.on.within) in
      ne_eqb head 0 (λ e. omega (arith, whole, here, ap (λ (r : ℕ). length (terms_from s r)) e, ap length (terms_end s)))

  passed_and_left : before_first_true f (terms_from s head) ≡ length l.passed + before_first_true f (terms_from s at)
  passed_and_left = ap (before_first_true f) l.place ∙ past_false f l.passed (terms_from s at) l.falses

  -- No more terms are passed than stand before the first true one;
  pub no_further : length l.passed ≤ before_first_true f (terms_from s head)
  no_further = omega (arith, passed_and_left)

  -- and a term that is true where the loop stands is the first true one.
  pub first_true : Accepted s → 1 ≤ at → holds f (term_at s at) ≡ true → length l.passed ≡ before_first_true f (terms_from s head)
  first_true ok low e =
      let here = ap (before_first_true f) (terms_step s ok at low l.on.within) ∙ here_true f (term_at s at) _ e in
      omega (arith, passed_and_left, here)
