-- Two assignments that agree on the lots that conditions name meet the same of them.
use Prim.Native.Nat.{ℕ, suc}
use mathlib.Core.Bool.{not}
use mathlib.Core.List.{List, [], ◌∷◌}
use mathlib.Core.Path.{◌≡◌, refl, ap, ap₂}
use lib.Dec.{eqb}
use Rattle.sheet.specs.Conditions.{Term, same, apart, BothLots}
use Rattle.buffers.specs.Lists.{All}
use Rattle.buffers.proofs.Lists.{all_map}
use Rattle.equality.specs.Meaning.{holds, meets_condition}
use Rattle.equality.specs.Evaluator.{lowest_unmet}
use Rattle.equality.proofs.Some.{some_agree}

module _ (Named : ℕ → Type 0) (f g : ℕ → ℕ) (agree : (lot : ℕ) → Named lot → f lot ≡ g lot) where
  term_agrees : (t : Term) → BothLots Named t → holds f t ≡ holds g t
  term_agrees (same a b) h = ap₂ eqb (agree a h.0) (agree b h.1)
  term_agrees (apart a b) h = ap not (ap₂ eqb (agree a h.0) (agree b h.1))

  pub condition_agrees : (ts : List Term) → All (BothLots Named) ts → meets_condition f ts ≡ meets_condition g ts
  condition_agrees ts h = some_agree (holds f) (holds g) ts (all_map term_agrees ts h)

  pub lowest_agrees : (c : ℕ) (tss : List (List Term)) → All (All (BothLots Named)) tss → lowest_unmet f c tss ≡ lowest_unmet g c tss
  unfolding lowest_unmet
  lowest_agrees c [] h = refl
  lowest_agrees c (ts ∷ tss) h = rw (condition_agrees ts h.0, lowest_agrees (suc c) tss h.1)
