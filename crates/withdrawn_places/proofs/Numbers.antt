-- Under which numbers withdrawn conditions stand in a merged sheet: it follows from the places that a merge keeps.
use Prim.Native.Nat.{ℕ, suc, ◌+◌, ◌-◌, ◌<◌}
use mathlib.Core.List.{List, [], ◌++◌}
use mathlib.Core.Path.{◌≡◌, sym, ap, subst, ◌∙◌}
use native.Mathlib.Omega.{arith}
use lib.ListN.{length, get_or, length-append, get_or-append}
use lib.Seq.{get_or-append-add}
use Rattle.sheet.specs.Format.{condition_count}
use Rattle.sheet.specs.Checks.{Accepted}
use Rattle.sheet.specs.Conditions.{Term, condition_at, conditions}
use Rattle.sheet.proofs.Conditions.{conditions-length, conditions_at, withdrawn-empty, empty-withdrawn}
use Rattle.repeats.specs.Repeats.{has_terms}
use Rattle.merge.specs.Places.{StandsAt, left_out_before}
use Rattle.merge.specs.Promises.{Placed}
use Rattle.merge.proofs.Places.{stay-before, before-front}
use Rattle.withdrawn_places.specs.Numbers.{Withdrawn, FirstStand, SecondStand}

-- ---- by numbers and by places

-- A withdrawn condition has no term;
stands : (s : List ℕ) (c : ℕ) → Withdrawn s c → StandsAt (conditions s) (c - 1) []
stands s c h =
    let after : suc (c - 1) ≡ c = omega (arith, h.low) in
    record {
      there = omega (arith, h.low, h.high, conditions-length s);
      this = conditions_at s (c - 1) (omega (arith, h.low, h.high)) ∙ ap (condition_at s) after ∙ withdrawn-empty s c h.head;
    }

-- and in an accepted sheet one with no term is withdrawn.
withdrawn : (w : List ℕ) (i : ℕ) → Accepted w → StandsAt (conditions w) i [] → Withdrawn w (suc i)
withdrawn w i ok h =
    let high : i < condition_count w = omega (arith, h.there, conditions-length w) in
    record { low = omega arith; high = high; head = empty-withdrawn w ok (suc i) (omega arith) high (sym (conditions_at w i high) ∙ h.this) }

module _ (w s t : List ℕ) (ok : Accepted w) (places : Placed w s t) where
  abbrev both : List (List Term)
  both = conditions s ++ conditions t

  -- The one at place i of both is number i + 1, less what is left out before it.
  moved : (i number : ℕ) → StandsAt both i [] → number ≡ suc i - left_out_before has_terms both i → Withdrawn w number
  moved i number h e =
      let front = stay-before has_terms both i (omega (arith, h.there)) in
      subst (Withdrawn w) (omega (arith, front)) (withdrawn w (i - left_out_before has_terms both i) ok (places.withdrawn i h))

  pub first-stand : FirstStand w s
  first-stand c h =
      let at = stands s c h in
      moved (c - 1) (c - left_out_before has_terms (conditions s) (c - 1))
      (record {
        there = omega (arith, at.there, length-append (conditions s) (conditions t));
        this = get_or-append (conditions s) (conditions t) [] (c - 1) at.there ∙ at.this;
      })
      (omega (arith, before-front has_terms (conditions s) (conditions t) (c - 1) (omega (arith, at.there)), h.low))

  pub second-stand : SecondStand w s t
  second-stand c h =
      let at = stands t c h in
      let place : condition_count s + c - 1 ≡ length (conditions s) + (c - 1) = omega (arith, conditions-length s, h.low) in
      moved (condition_count s + c - 1) (condition_count s + c - left_out_before has_terms both (condition_count s + c - 1))
      (record {
        there = omega (arith, at.there, length-append (conditions s) (conditions t));
        this = ap (λ (i : ℕ). get_or both i []) place ∙ get_or-append-add (conditions s) (conditions t) (c - 1) [] ∙ at.this;
      })
      (omega (arith, h.low))
