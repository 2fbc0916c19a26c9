-- The test of equal conditions tells just that, and so does the test whether a condition repeats one of a list.
use Prim.Native.Nat.{ℕ, zero, suc, ◌<◌}
use mathlib.Core.Bool.{Bool, true, false, ◌||◌, false≢true}
use mathlib.Core.List.{List, [], ◌∷◌, ◌++◌}
use mathlib.Core.Path.{◌≡◌, refl, sym, ap₂, subst}
use native.Mathlib.Omega.{arith}
use borrow.Author.Tests.{eqb-true, eq-eqb}
use lib.ListN.{length, get_or}
use Rattle.buffers.specs.Lists.{All}
use Rattle.sheet.specs.Conditions.{Term, same, apart}
use Rattle.equality.proofs.Tests.{and_true_both}
use Rattle.repeats.specs.Repeats.{equal_terms, equal_conditions, repeats}

-- ---- terms

terms_equal : (t u : Term) → equal_terms t u ≡ true → t ≡ u
unfolding equal_terms
terms_equal (same a b) (same c d) e = let (p, q) = and_true_both _ _ e in ap₂ same (eqb-true a c p) (eqb-true b d q)
terms_equal (same a b) (apart c d) e = absurd (false≢true e)
terms_equal (apart a b) (same c d) e = absurd (false≢true e)
terms_equal (apart a b) (apart c d) e = let (p, q) = and_true_both _ _ e in ap₂ apart (eqb-true a c p) (eqb-true b d q)

term_itself : (t : Term) → equal_terms t t ≡ true
unfolding equal_terms
term_itself (same a b) = rw (eq-eqb a a refl, eq-eqb b b refl)
term_itself (apart a b) = rw (eq-eqb a a refl, eq-eqb b b refl)

-- ---- conditions

pub conditions_equal : (ts us : List Term) → equal_conditions ts us ≡ true → ts ≡ us
unfolding equal_conditions
conditions_equal [] [] e = refl
conditions_equal [] (u ∷ us) e = absurd (false≢true e)
conditions_equal (t ∷ ts) [] e = absurd (false≢true e)
conditions_equal (t ∷ ts) (u ∷ us) e =
    let (p, q) = and_true_both _ _ e in
    ap₂ {C = List Term} ◌∷◌ (terms_equal t u p) (conditions_equal ts us q)

pub condition_itself : (ts : List Term) → equal_conditions ts ts ≡ true
unfolding equal_conditions
condition_itself [] = refl
condition_itself (t ∷ ts) = rw (term_itself t, condition_itself ts)

-- ---- one of a list

pub or_true : (p : Bool) → (p || true) ≡ true
or_true true = refl
or_true false = refl

-- What holds of each of a list holds of one that repeats one of them.
pub repeated_all : (P : List Term → Type 0) (ts : List Term) (tss : List (List Term)) → repeats ts tss ≡ true → All P tss → P ts
unfolding repeats
repeated_all P ts [] e all = absurd (false≢true e)
repeated_all P ts (us ∷ tss) e all = go (equal_conditions ts us) refl e (repeated_all P ts tss)
  where
    go : (b : Bool) → equal_conditions ts us ≡ b → (b || repeats ts tss) ≡ true → (repeats ts tss ≡ true → All P tss → P ts) → P ts
    go true q e rest = subst P (sym (conditions_equal ts us q)) all.0
    go false q e rest = rest e all.1

-- One of two lists.
pub repeats-append : (ts : List Term) (tss uss : List (List Term)) → repeats ts (tss ++ uss) ≡ (repeats ts tss || repeats ts uss)
unfolding repeats
repeats-append ts [] uss = refl
repeats-append ts (vs ∷ tss) uss = go (equal_conditions ts vs) (repeats ts tss) (repeats ts uss) (repeats-append ts tss uss)
  where
    go : (p q r : Bool) {both : Bool} → both ≡ (q || r) → (p || both) ≡ ((p || q) || r)
    go true q r e = refl
    go false q r e = e

-- One of them, by its place.
pub repeats_nth : (tss : List (List Term)) (i : ℕ) → i < length tss → repeats (get_or tss i []) tss ≡ true
unfolding repeats
repeats_nth [] i h = absurd (omega arith)
repeats_nth (ts ∷ tss) zero h = rw (condition_itself ts)
repeats_nth (ts ∷ tss) (suc i) h = rw (repeats_nth tss i (omega arith)) (or_true (equal_conditions (get_or tss i []) ts))
