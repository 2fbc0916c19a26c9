-- Conditions that repeat an earlier one (document 02, jobs 4 and 6).
use Rattle.std.specs.Prelude.{ℕ, Bool, true, false, cond, ◌&&◌, ◌||◌, List, [], ◌∷◌, ◌++◌, eqb}
use Rattle.sheet.specs.Conditions.{Term, sign_of, first_lot, second_lot, conditions}

-- "the same terms": two terms have the same sign, and the same lots in the same order;
unfoldable pub equal_terms : Term → Term → Bool
equal_terms t u = eqb (sign_of t) (sign_of u) && (eqb (first_lot t) (first_lot u) && eqb (second_lot t) (second_lot u))

-- "in the same order": term by term, and none is left over.
unfoldable pub equal_conditions : List Term → List Term → Bool
equal_conditions [] [] = true
equal_conditions [] (u ∷ us) = false
equal_conditions (t ∷ ts) [] = false
equal_conditions (t ∷ ts) (u ∷ us) = equal_terms t u && equal_conditions ts us

-- The condition ts has the same terms in the same order as one of these.
unfoldable pub repeats : List Term → List (List Term) → Bool
repeats ts [] = false
repeats ts (us ∷ tss) = equal_conditions ts us || repeats ts tss

-- "one with the same terms in the same order as an earlier one is left out": of the conditions tss, behind the `earlier` ones, whether these were left out or
-- not; and only one that may be left out.
module _ (may_leave_out : List Term → Bool) where
  unfoldable pub without_repeats : List (List Term) → List (List Term) → List (List Term)
  without_repeats earlier [] = []
  without_repeats earlier (ts ∷ tss) =
      let rest = without_repeats (ts ∷ earlier) tss in
      cond (may_leave_out ts && repeats ts earlier) rest (ts ∷ rest)

-- Which conditions may be left out (job 6): "keeping a struck place comes first; only conditions with terms can be left out as repeats".
abbrev pub has_terms : List Term → Bool
has_terms [] = false
has_terms (t ∷ ts) = true

-- By job 4 alone any condition might be left out: the merge with this rule is what job 6 is compared with.
abbrev pub any_condition : List Term → Bool
any_condition ts = true

-- Of two sheets: "the conditions of the first come in order, then those of the second; one with the same terms in the same order as an earlier one is left out"
module _ (may_leave_out : List Term → Bool) (s t : List ℕ) where
  unfoldable pub merged_conditions : List (List Term)
  merged_conditions = without_repeats may_leave_out [] (conditions s ++ conditions t)
