-- "each lot its class's smallest lot" has no more different numbers on lots 0 to n than classes are left; and only these lots count.
use Prim.Native.Nat.{ℕ, ◌≤◌}
use mathlib.Core.Path.{◌≡◌}
use lib.ListN.{length}
use Rattle.equality.specs.Node.{Decisions, smallest_lot}
use Rattle.limit.specs.Meaning.{Limit, unlimited, up_to, AtMost, Keeps}
use Rattle.limit.specs.Rule.{classes_left}
use Rattle.limit.proofs.Left.{class_left}

pub classes-few : (n : ℕ) (ds : Decisions) (g : ℕ) → length (classes_left n ds) ≤ g → AtMost ℕ g n (smallest_lot ds)
classes-few n ds g few = record { values = classes_left n ds; few = few; has = class_left n ds }

-- An assignment that agrees on lots 0 to n with one that keeps the limit keeps it.
pub keeps_agrees : {A : Type 0} (limit : Limit) (n : ℕ) (f f' : ℕ → A) → ((lot : ℕ) → lot ≤ n → f' lot ≡ f lot) → Keeps limit n f → Keeps limit n f'
keeps_agrees unlimited n f f' agrees keeps' = tt
keeps_agrees (up_to g) n f f' agrees keeps' =
    record { values = keeps'.values; few = keeps'.few; has = λ lot h. rw (agrees lot h) (keeps'.has lot h) }
