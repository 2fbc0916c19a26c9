-- The two rules beside each other: any condition may be left out, or only those with terms.
use Prim.Native.Nat.{ℕ, ◌+◌, ◌-◌, ◌≤◌}
use mathlib.Core.Bool.{Bool, true, false, cond}
use mathlib.Core.List.{List, [], ◌∷◌, ◌++◌, flatten}
use mathlib.Core.Path.{◌≡◌, refl, ap}
use native.Mathlib.Omega.{arith}
use lib.ListN.{length}
use Rattle.sheet.specs.Conditions.{Term}
use Rattle.repeats.specs.Repeats.{equal_conditions, repeats, without_repeats, any_condition, has_terms}
use Rattle.repeats.proofs.Left.{must_stay}

-- How many of these have no term.
abbrev pub empty_count : List (List Term) → ℕ
empty_count tss = length (must_stay has_terms tss)

-- Both give the same terms,
pub beside-terms : (earlier tss : List (List Term)) → flatten (without_repeats has_terms earlier tss) ≡ flatten (without_repeats any_condition earlier tss)
unfolding without_repeats flatten
beside-terms earlier [] = refl
beside-terms earlier ([] ∷ tss) = go (repeats [] earlier) (without_repeats has_terms ([] ∷ earlier) tss) (without_repeats any_condition ([] ∷ earlier) tss) (beside-terms ([] ∷ earlier) tss)
  where
    go : (b : Bool) (new old : List (List Term)) → flatten new ≡ flatten old → flatten new ≡ flatten (cond b old ([] ∷ old))
    go true new old e = e
    go false new old e = e
beside-terms earlier ((t ∷ ts) ∷ tss) =
    go (repeats (t ∷ ts) earlier) (without_repeats has_terms ((t ∷ ts) ∷ earlier) tss) (without_repeats any_condition ((t ∷ ts) ∷ earlier) tss)
    (beside-terms ((t ∷ ts) ∷ earlier) tss)
  where
    go : (b : Bool) (new old : List (List Term)) → flatten new ≡ flatten old → flatten (cond b new ((t ∷ ts) ∷ new)) ≡ flatten (cond b old ((t ∷ ts) ∷ old))
    go true new old e = e
    go false new old e = ap (λ (rest : List Term). t ∷ ts ++ rest) e

-- the second rule as many conditions more as have no term, but for the first of them where no earlier one has none,
pub beside-count : (earlier tss : List (List Term)) (b : Bool) → repeats [] earlier ≡ b
    → length (without_repeats has_terms earlier tss) ≡ length (without_repeats any_condition earlier tss) + (empty_count tss - cond b 0 1)
unfolding without_repeats repeats equal_conditions
beside-count earlier [] true e = refl
beside-count earlier [] false e = refl
beside-count earlier ([] ∷ tss) true e = rw e (omega (arith, beside-count ([] ∷ earlier) tss true refl))
beside-count earlier ([] ∷ tss) false e = rw e (omega (arith, beside-count ([] ∷ earlier) tss true refl))
beside-count earlier ((t ∷ ts) ∷ tss) b e = go (repeats (t ∷ ts) earlier) _ _ _ (beside-count ((t ∷ ts) ∷ earlier) tss b e)
  where
    go : (c : Bool) (new old : List (List Term)) (more : ℕ) → length new ≡ length old + more
        → length (cond c new ((t ∷ ts) ∷ new)) ≡ length (cond c old ((t ∷ ts) ∷ old)) + more
    go true new old more q = q
    go false new old more q = omega arith

-- and the same conditions where at most one has no term.
pub beside_alike : (earlier tss : List (List Term)) (b : Bool) → repeats [] earlier ≡ b → empty_count tss ≤ cond b 0 1
    → without_repeats has_terms earlier tss ≡ without_repeats any_condition earlier tss
unfolding without_repeats repeats equal_conditions
beside_alike earlier [] b e few = refl
beside_alike earlier ([] ∷ tss) true e few = absurd (omega arith)
beside_alike earlier ([] ∷ tss) false e few = rw e (ap (λ (rest : List (List Term)). [] ∷ rest) (beside_alike ([] ∷ earlier) tss true refl (omega arith)))
beside_alike earlier ((t ∷ ts) ∷ tss) b e few = rw (beside_alike ((t ∷ ts) ∷ earlier) tss b e few)
