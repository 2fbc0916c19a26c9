-- The limits that check 20 admits.
use Prim.Native.Nat.{ℕ, ◌≤◌}
use mathlib.Core.Bool.{Bool, false}
use mathlib.Core.Path.{◌≡◌, refl, ap}
use Rattle.sheet.specs.Verdicts.{Passes}
use Rattle.sheet.specs.Checks.{or_else, refuses_if, first_refusal}
use Rattle.equality.proofs.Tests.{from_one}
use Rattle.limit.specs.Meaning.{unlimited, up_to, most_limit, ill_limited, check20, Admitted}

-- Where there is no limit, 20 passes.
pub none_admitted : Admitted unlimited
unfolding first_refusal
none_admitted = refl

-- A limit that is admitted is at least 1 and not too high,
pub limit-within : (g : ℕ) → ill_limited g ≡ false → (1 ≤ g) × (g ≤ most_limit)
limit-within g e = from_one most_limit g e

-- and 20 passes it.
pub limit_admitted : (g : ℕ) → ill_limited g ≡ false → Admitted (up_to g)
unfolding first_refusal check20
limit_admitted g e = ap (λ (p : Bool). or_else (refuses_if p 20 g) Passes) e
