-- Laws of "some term of a condition is such and such". All but one, `some_no_term`, hold whatever a condition with no term counts for.
use mathlib.Core.Bool.{Bool, true, false, ◌||◌, or-true, false≢true}
use mathlib.Core.List.{List, [], ◌∷◌, ◌++◌}
use mathlib.Core.Logic.{⊎_elim}
use mathlib.Core.Path.{◌≡◌, refl, sym, ap, ap₂, fun_ext}
use lib.Dec.{T}
use Rattle.sheet.specs.Conditions.{Term}
use Rattle.buffers.specs.Lists.{All}
use Rattle.equality.specs.Meaning.{AnyTerm, any_term, no_term, SomeTerm, some_term}
use Rattle.equality.proofs.Tests.{either_false}

none_any : (P : Term → Type 0) (ts : List Term) → All (λ t. ¬ P t) ts → ¬ AnyTerm P ts
unfolding AnyTerm
none_any P [] none = λ h. h
none_any P (t ∷ ts) none = ⊎_elim none.0 (none_any P ts none.1)

-- ---- some of these terms: what is left of a chain, or any list of terms

pub any_false : (q : Term → Bool) (ts : List Term) → All (λ t. q t ≡ false) ts → any_term q ts ≡ false
unfolding any_term
any_false q [] none = refl
any_false q (t ∷ ts) none = rw none.0 (any_false q ts none.1)

-- Past terms that are not such, those that follow decide.
pub any_past : (q : Term → Bool) (before after : List Term) → All (λ t. q t ≡ false) before → any_term q (before ++ after) ≡ any_term q after
unfolding any_term
any_past q [] after none = refl
any_past q (t ∷ before) after none = rw none.0 (any_past q before after none.1)

-- ---- a whole condition

-- Some term of a condition that has terms is such where some of them is.
pub some_any : (q : Term → Bool) (t : Term) (ts : List Term) → some_term q (t ∷ ts) ≡ any_term q (t ∷ ts)
unfolding any_term some_term
some_any q t ts = refl

-- A condition with no term counts for one that has such a term: this law alone says so.
pub some_no_term : (q : Term → Bool) → some_term q [] ≡ true
unfolding some_term
some_no_term q = refl

-- A condition some of whose terms is such and such has such a term, whatever a condition with no term counts for.
pub some_found : (q : Term → Bool) (ts : List Term) → any_term q ts ≡ true → some_term q ts ≡ true
unfolding any_term some_term
some_found q [] e = absurd (false≢true e)
some_found q (t ∷ ts) e = e

module _ (p : Term → Bool) where
  pub any_none : (ts : List Term) → any_term p ts ≡ false → All (λ t. p t ≡ false) ts
  unfolding any_term
  any_none [] e = tt
  any_none (t ∷ ts) e = let both = either_false (p t) (any_term p ts) e in (both.0, any_none ts both.1)

  -- Where no term is such, each is not.
  pub some_none : (ts : List Term) → some_term p ts ≡ false → All (λ t. p t ≡ false) ts
  unfolding some_term
  some_none [] e = tt
  some_none (t ∷ ts) e = let both = either_false (p t) (any_term p ts) e in (both.0, any_none ts both.1)

  pub any_here : (before : List Term) (t : Term) (after : List Term) → p t ≡ true → any_term p (before ++ t ∷ after) ≡ true
  unfolding any_term
  any_here [] t after e = rw e
  any_here (u ∷ before) t after e = rw (any_here before t after e) (or-true (p u))

  -- Two tests that agree at each term of a condition agree on the condition;
  pub any_agree : (q : Term → Bool) (ts : List Term) → All (λ t. p t ≡ q t) ts → any_term p ts ≡ any_term q ts
  unfolding any_term
  any_agree q [] each = refl
  any_agree q (t ∷ ts) each = ap₂ ◌||◌ each.0 (any_agree q ts each.1)

  pub some_agree : (q : Term → Bool) (ts : List Term) → All (λ t. p t ≡ q t) ts → some_term p ts ≡ some_term q ts
  unfolding some_term
  some_agree q [] each = refl
  some_agree q (t ∷ ts) each = ap₂ ◌||◌ each.0 (any_agree q ts each.1)

  -- and two that agree at every term agree on every condition.
  pub some_agrees : (q : Term → Bool) → ((t : Term) → p t ≡ q t) → (ts : List Term) → some_term p ts ≡ some_term q ts
  some_agrees q each ts = ap (λ (r : Term → Bool). some_term r ts) (fun_ext each)

  -- A condition of which no term is such, by one test, has none by another test that none of its terms passes.
  pub none_too : (q : Term → Bool) (ts : List Term) → some_term p ts ≡ false → All (λ t. q t ≡ false) ts → some_term q ts ≡ false
  unfolding some_term
  none_too q [] e none = e
  none_too q (t ∷ ts) e none = rw none.0 (any_false q ts none.1)

  -- A condition of which no term is such, by the test, has no term that is otherwise, where none of its terms is.
  pub none_some : (P : Term → Type 0) (ts : List Term) → some_term p ts ≡ false → All (λ t. ¬ P t) ts → ¬ SomeTerm P ts
  unfolding some_term SomeTerm
  none_some P [] e none = impossible no_term e
    where
      impossible : (b : Bool) → b ≡ false → ¬ T b
      impossible true e h = false≢true (sym e)
      impossible false e h = h
  none_some P (t ∷ ts) e none = ⊎_elim none.0 (none_any P ts none.1)
