-- After the scan.
use Prim.Native.Nat.{ℕ}
use mathlib.Core.List.{List, []}
use mathlib.Core.Path.{◌≡◌, refl, sym, ap}
use Rattle.sheet.specs.Format.{head_at}
use Rattle.sheet.specs.Inner.{OnChain}
use Rattle.sheet.specs.Conditions.{terms_from, condition_at, conditions}
use Rattle.equality.specs.Node.{Decisions, takes, taken, ground_or_split}
use Rattle.scan.specs.Place.{ResumesWithin}

-- The condition taken is gone on within from its head on.
pub head-resumes : (ds : Decisions) (s : List ℕ) (c head : ℕ) → head ≡ head_at s c → OnChain s head → taken ds 1 (conditions s) ≡ takes c (condition_at s c)
    → ResumesWithin s c head ds
unfolding ground_or_split
head-resumes ds s c head e h t =
    record { condition = t; passes = record { on = h; passed = []; place = ap (terms_from s) (sym e); closed = λ d. refl } }
