-- A loop over the conditions that adds up what each of them counts for, at most 1.
use Prim.Native.Nat.{ℕ, suc, ◌+◌, ◌≤◌, ◌<◌}
use mathlib.Core.Bool.{Bool, true, false, cond}
use mathlib.Core.List.{List, [], ◌∷◌}
use mathlib.Core.Path.{◌≡◌, refl, ap, ◌∙◌}
use native.Mathlib.Omega.{arith}
use lib.ListN.{drop}
use Rattle.sheet.specs.Format.{condition_count}
use Rattle.sheet.specs.Conditions.{Term, condition_at, conditions}
use Rattle.sheet.proofs.Conditions.{conditions_step, conditions_end}
use Rattle.reassignment.specs.Count.{unmet_one, unmet_count}
use Rattle.reassignment.specs.Reassign.{names, naming}
use Rattle.reassignment.proofs.Counting.{one_most}

-- `total` of conditions adds up what each counts for, by `weight`.
pub record Adds (weight : List Term → ℕ) (total : List (List Term) → ℕ) : Type 0 where
  pub end : total [] ≡ 0
  pub step : (ts : List Term) (tss : List (List Term)) → total (ts ∷ tss) ≡ weight ts + total tss
  pub one : (ts : List Term) → weight ts ≤ 1

-- The first c conditions are added up.
pub record Summing (total : List (List Term) → ℕ) (s : List ℕ) (c sum : ℕ) : Type 0 where
  pub within : c ≤ condition_count s
  pub most : sum ≤ c
  pub rest : total (conditions s) ≡ sum + total (drop c (conditions s))

pub summing_start : (total : List (List Term) → ℕ) (s : List ℕ) → Summing total s 0 0
summing_start total s = record { within = omega arith; most = omega arith; rest = omega arith }

module _ {weight : List Term → ℕ} {total : List (List Term) → ℕ} (adds : Adds weight total) {s : List ℕ} {c sum : ℕ} (l : Summing total s c sum) where
  -- One more is added,
  pub summing_next : c < condition_count s → {x : ℕ} → x ≡ weight (condition_at s (suc c)) → Summing total s (suc c) (sum + x)
  summing_next h {x} e =
      let here = ap total (conditions_step s c h) ∙ adds.step (condition_at s (suc c)) (drop (suc c) (conditions s)) in
      record {
        within = omega arith;
        most = omega (arith, l.most, adds.one (condition_at s (suc c)));
        rest = omega (arith, l.rest, here);
      }

  -- and past the last the sum is the total.
  pub summed : condition_count s ≤ c → total (conditions s) ≡ sum
  summed h = omega (arith, l.rest, ap total (conditions_end s c h) ∙ adds.end)

-- ---- the two sums of this kind: the unmet conditions,

pub unmet_adds : (f : ℕ → ℕ) → Adds (unmet_one f) (unmet_count f)
unfolding unmet_count
unmet_adds f = record { end = refl; step = λ ts tss. refl; one = one_most f }

-- and those of them that name a lot.
pub naming_adds : (f : ℕ → ℕ) (lot : ℕ) → Adds (λ ts. cond (names lot ts) (unmet_one f ts) 0) (λ tss. unmet_count f (naming lot tss))
unfolding unmet_count naming
naming_adds f lot = record { end = refl; step = λ ts tss. here ts tss (names lot ts); one = λ ts. most ts (names lot ts) }
  where
    here : (ts : List Term) (tss : List (List Term)) (p : Bool)
        → unmet_count f (cond p (ts ∷ naming lot tss) (naming lot tss)) ≡ cond p (unmet_one f ts) 0 + unmet_count f (naming lot tss)
    here ts tss true = refl
    here ts tss false = omega arith

    most : (ts : List Term) (p : Bool) → cond p (unmet_one f ts) 0 ≤ 1
    most ts true = one_most f ts
    most ts false = omega arith
