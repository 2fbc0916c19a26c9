-- Terms whose lots are within the classes' entries, as those of every accepted sheet are.
use Prim.Native.Nat.{ℕ}
use mathlib.Core.List.{List}
use native.Mathlib.Omega.{arith}
use Rattle.sheet.specs.Format.{lot_count}
use Rattle.sheet.specs.Checks.{Accepted}
use Rattle.sheet.specs.Conditions.{Term, same, apart, conditions, TermIn}
use Rattle.buffers.specs.Lists.{All}
use Rattle.buffers.proofs.Lists.{all_map}
use Rattle.sheet.proofs.Accepted.{sound}
use Rattle.sheet.proofs.Conditions.{conditions_in}
use Rattle.equality.specs.Opens.{Small}

module _ (s : List ℕ) (ok : Accepted s) where
  term_small : (t : Term) → TermIn (lot_count s) t → Small t
  term_small (same a b) h = omega (arith, h.0.high, h.1.high, (sound s ok).header.lots)
  term_small (apart a b) h = omega (arith, h.0.high, h.1.high, (sound s ok).header.lots)

  pub conditions-small : All (All Small) (conditions s)
  conditions-small = all_map (λ ts. all_map term_small ts) (conditions s) (conditions_in s ok)
