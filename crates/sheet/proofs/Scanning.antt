-- A loop over the conditions that leaves at the first of which a test is false: those that it has passed pass the test, so what it looks for is among the rest.
use Prim.Native.Nat.{ℕ, suc, ◌≤◌, ◌<◌}
use mathlib.Core.Bool.{Bool, true, false, cond}
use mathlib.Core.List.{List, [], ◌∷◌}
use mathlib.Core.Path.{◌≡◌, refl, ap, ◌∙◌}
use native.Mathlib.Omega.{arith}
use lib.ListN.{drop}
use Rattle.sheet.specs.Format.{condition_count}
use Rattle.sheet.specs.Conditions.{Term, condition_at, conditions}
use Rattle.sheet.proofs.Conditions.{conditions_step, conditions_end}

-- `first`, of conditions and the number of the first of them, goes along them so: `here` of the first that fails the test and its number, `none` past the last.
pub record Goes {A : Type 0} (passes : List Term → Bool) (here : ℕ → List Term → A) (none : A) (first : ℕ → List (List Term) → A) : Type 0 where
  pub end : (c : ℕ) → first c [] ≡ none
  pub step : (c : ℕ) (ts : List Term) (tss : List (List Term)) → first c (ts ∷ tss) ≡ cond (passes ts) (first (suc c) tss) (here c ts)

-- The first c conditions are passed.
pub record Scanning {A : Type 0} (first : ℕ → List (List Term) → A) (s : List ℕ) (c : ℕ) : Type 0 where
  pub within : c ≤ condition_count s
  pub rest : first 1 (conditions s) ≡ first (suc c) (drop c (conditions s))

pub scanning_start : {A : Type 0} (first : ℕ → List (List Term) → A) (s : List ℕ) → Scanning first s 0
scanning_start first s = record { within = omega arith; rest = refl }

module _ {A : Type 0} {passes : List Term → Bool} {here : ℕ → List Term → A} {none : A} {first : ℕ → List (List Term) → A}
    (goes : Goes passes here none first) {s : List ℕ} {c : ℕ} (l : Scanning first s c) where
  stepped : c < condition_count s
      → first 1 (conditions s) ≡ cond (passes (condition_at s (suc c))) (first (suc (suc c)) (drop (suc c) (conditions s))) (here (suc c) (condition_at s (suc c)))
  stepped h = l.rest ∙ ap (first (suc c)) (conditions_step s c h) ∙ goes.step (suc c) (condition_at s (suc c)) (drop (suc c) (conditions s))

  -- One that fails the test is found;
  pub found_here : c < condition_count s → passes (condition_at s (suc c)) ≡ false → first 1 (conditions s) ≡ here (suc c) (condition_at s (suc c))
  found_here h e = stepped h ∙ rw e

  -- another is passed;
  pub scanning_next : c < condition_count s → passes (condition_at s (suc c)) ≡ true → Scanning first s (suc c)
  scanning_next h e = record { within = h; rest = stepped h ∙ rw e }

  -- and past the last there is none.
  pub none_found : condition_count s ≤ c → first 1 (conditions s) ≡ none
  none_found h = l.rest ∙ ap (first (suc c)) (conditions_end s c h) ∙ goes.end (suc c)
