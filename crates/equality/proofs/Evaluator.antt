-- The evaluator's answer (theorem 8): 0 exactly when the numbers that it reads meet the conditions, else the lowest condition that they don't.
use Prim.Native.Nat.{ℕ, suc, ◌+◌, ◌-◌, ◌≤◌, ◌<◌}
use mathlib.Core.Bool.{Bool, true, false, cond, ◌&&◌, false≢true}
use mathlib.Core.List.{List, [], ◌∷◌}
use mathlib.Core.Logic.{◌↔◌}
use mathlib.Core.Path.{◌≡◌, refl}
use native.Mathlib.Omega.{arith}
use borrow.Author.Tests.{eqb-true, eqb-false}
use lib.Dec.{eqb}
use lib.ListN.{length, get_or}
use Rattle.sheet.specs.Conditions.{Term}
use Rattle.equality.specs.Meaning.{MeetsAll, Assignment, CanBeMet, meets_condition, meets_all}
use Rattle.equality.specs.Evaluator.{number_in, GroupingMeets, lowest_unmet}
use Rattle.equality.proofs.Meaning.{all_decides}

-- ---- the numbers that it reads

-- Lot 0 has the number 0 there, whatever the bytes are: they are an assignment,
pub grouping_assigns : (grouping : List ℕ) → Assignment (number_in grouping)
grouping_assigns grouping = refl

-- so that a sheet which a grouping meets can be met.
pub grouping_can : (grouping s : List ℕ) → GroupingMeets grouping s → CanBeMet s
grouping_can grouping s meets' = (number_in grouping, grouping_assigns grouping, meets')

-- ---- 0 exactly where all conditions are met

module _ (f : ℕ → ℕ) where
  pub lowest_met : (c : ℕ) (tss : List (List Term)) → meets_all f tss ≡ true → lowest_unmet f c tss ≡ 0
  unfolding lowest_unmet meets_all
  lowest_met c [] e = refl
  lowest_met c (ts ∷ tss) e = go (meets_condition f ts) e (lowest_met (suc c) tss)
    where
      go : (p : Bool) → (p && meets_all f tss) ≡ true → (meets_all f tss ≡ true → lowest_unmet f (suc c) tss ≡ 0) → cond p (lowest_unmet f (suc c) tss) c ≡ 0
      go true e rest = rest e
      go false e rest = absurd (false≢true e)

  pub met_lowest : (c : ℕ) (tss : List (List Term)) → 1 ≤ c → lowest_unmet f c tss ≡ 0 → meets_all f tss ≡ true
  unfolding lowest_unmet meets_all
  met_lowest c [] h e = refl
  met_lowest c (ts ∷ tss) h e = go (meets_condition f ts) e (met_lowest (suc c) tss (omega arith))
    where
      go : (p : Bool) → cond p (lowest_unmet f (suc c) tss) c ≡ 0 → (lowest_unmet f (suc c) tss ≡ 0 → meets_all f tss ≡ true) → (p && meets_all f tss) ≡ true
      go true e rest = rest e
      go false e rest = absurd (omega arith)

  -- Theorem 8, the first half.
  pub evaluator_zero : (tss : List (List Term)) → lowest_unmet f 1 tss ≡ 0 ↔ MeetsAll f tss
  evaluator_zero tss =
      ((λ e. (all_decides f tss).0 (met_lowest 1 tss (omega arith) e)), (λ h. lowest_met 1 tss ((all_decides f tss).1 h)))

  -- ---- else the lowest that isn't

  -- Condition c, numbered from `from` on, is the lowest unmet one.
  pub record LowestUnmet (from : ℕ) (tss : List (List Term)) (c : ℕ) : Type 0 where
    pub low : from ≤ c
    pub high : c < from + length tss
    pub unmet : meets_condition f (get_or tss (c - from) []) ≡ false
    pub earlier : (d : ℕ) → from ≤ d → d < c → meets_condition f (get_or tss (d - from) []) ≡ true

  pub lowest_unmet_lem : (from : ℕ) (tss : List (List Term)) → (lowest_unmet f from tss ≡ 0 → ⊥) → LowestUnmet from tss (lowest_unmet f from tss)
  unfolding lowest_unmet
  lowest_unmet_lem from [] n = absurd (n refl)
  lowest_unmet_lem from (ts ∷ tss) n = go (meets_condition f ts) refl n (lowest_unmet_lem (suc from) tss)
    where
      one_on : (d : ℕ) → suc from ≤ d → get_or (ts ∷ tss) (d - from) [] ≡ get_or tss (d - suc from) []
      one_on d h = let e : d - from ≡ suc (d - suc from) = omega arith in rw e

      later : meets_condition f ts ≡ true → (c : ℕ) → LowestUnmet (suc from) tss c → LowestUnmet from (ts ∷ tss) c
      later q c l =
          record {
            low = omega (arith, l.low);
            high = omega (arith, l.high);
            unmet = rw (one_on c l.low) l.unmet;
            earlier = λ d low high. first d low high (eqb d from) refl;
          }
        where
          first : (d : ℕ) → from ≤ d → d < c → (b : Bool) → eqb d from ≡ b → meets_condition f (get_or (ts ∷ tss) (d - from) []) ≡ true
          first d low high true e = let z : d - from ≡ 0 = omega (arith, eqb-true d from e) in rw z q
          first d low high false e =
              let above : suc from ≤ d = omega (arith, eqb-false d from e) in rw (one_on d above) (l.earlier d above high)

      here : meets_condition f ts ≡ false → LowestUnmet from (ts ∷ tss) from
      here q =
          let z : from - from ≡ 0 = omega arith in
          record {
            low = omega arith;
            high = omega arith;
            unmet = rw z q;
            earlier = λ d low high. absurd (omega arith);
          }

      go : (p : Bool) → meets_condition f ts ≡ p → (cond p (lowest_unmet f (suc from) tss) from ≡ 0 → ⊥)
          → ((lowest_unmet f (suc from) tss ≡ 0 → ⊥) → LowestUnmet (suc from) tss (lowest_unmet f (suc from) tss))
          → LowestUnmet from (ts ∷ tss) (cond p (lowest_unmet f (suc from) tss) from)
      go true q n rest = later q (lowest_unmet f (suc from) tss) (rest n)
      go false q n rest = here q
