-- The condition taken is found by a loop over the conditions that leaves at the first which the classes do not meet.
use Prim.Native.Nat.{ℕ}
use mathlib.Core.Bool.{Bool, true, false, cond, beq}
use mathlib.Core.List.{List}
use mathlib.Core.Path.{◌≡◌, refl, sym, ap, ◌∙◌}
use lib.Dec.{eqb}
use Rattle.sheet.specs.Format.{same_sign}
use Rattle.sheet.specs.Conditions.{Term, same, apart, term_of}
use Rattle.sheet.proofs.Scanning.{Goes}
use Rattle.equality.specs.Meaning.{holds, meets_condition}
use Rattle.equality.specs.Node.{Decisions, classes, class_of, Taken, no_condition, takes, taken}
use Rattle.equality.proofs.Node.{lowest_taken, taken_by_classes}

pub taken_goes : (f : ℕ → ℕ) → Goes (meets_condition f) takes no_condition (lowest_taken f)
unfolding lowest_taken
taken_goes f = record { end = λ c. refl; step = λ c ts tss. refl }

-- What the classes take is what the node of their decisions takes.
pub taken_by_map : (lots : List ℕ) (tss : List (List Term)) {w : Taken} → lowest_taken (class_of lots) 1 tss ≡ w → (ds : Decisions) → lots ≡ classes ds → w ≡ taken ds 1 tss
taken_by_map lots tss e ds q = sym e ∙ ap (λ (l : List ℕ). lowest_taken (class_of l) 1 tss) q ∙ sym (taken_by_classes ds 1 tss)

-- A term is true by an assignment exactly where "its numbers are equal" and "its sign is 1" are the same.
pub term_flag : (f : ℕ → ℕ) (sign a b : ℕ) → holds f (term_of sign a b) ≡ beq (eqb (f a) (f b)) (eqb sign same_sign)
term_flag f sign a b = go (eqb sign same_sign) (eqb (f a) (f b)) refl
  where
    go : (p q : Bool) → eqb (f a) (f b) ≡ q → holds f (cond p (same a b) (apart a b)) ≡ beq (eqb (f a) (f b)) p
    go true true e = rw e
    go true false e = rw e
    go false true e = rw e
    go false false e = rw e
