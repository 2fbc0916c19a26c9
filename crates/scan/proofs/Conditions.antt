-- The scan stands at a condition: what a true term, or the end of its chain, says of it.
use Prim.Native.Nat.{ℕ, suc, ◌+◌, ◌<◌, ◌≤◌}
use mathlib.Core.Bool.{Bool, true, ◌||◌, or-false, beq}
use mathlib.Core.List.{List}
use mathlib.Core.Logic.{◌≢◌}
use mathlib.Core.Path.{◌≡◌, sym, ap, subst, ◌∙◌}
use native.Mathlib.Numerals.{add-one}
use native.Mathlib.Omega.{arith}
use borrow.Author.Tests.{eq-eqb, ne_eqb}
use lib.Dec.{eqb}
use Rattle.sheet.specs.declared.Term as code
use Rattle.sheet.specs.Format.{same_sign, condition_count, head_at, sign_at, first_lot_at, second_lot_at}
use Rattle.sheet.specs.Conditions.{terms_from, condition_at, conditions}
use Rattle.sheet.specs.Inner.{HasConditions, OnChain, term_record_at}
use Rattle.sheet.proofs.ChainEnds.{head-on}
use Rattle.sheet.proofs.Scanning.{Scanning, found_here, scanning_next}
use Rattle.equality.specs.Meaning.{holds, meets_condition}
use Rattle.equality.specs.Node.{Decisions, classes, class_of, takes}
use Rattle.equality.proofs.Some.{some_found}
use Rattle.equality.proofs.Withdrawn.{chain_some}
use Rattle.equality.proofs.Passing.{Passing, ended}
use Rattle.equality.proofs.Walking.{true_here}
use Rattle.equality.proofs.Node.{lowest_taken}
use Rattle.scan.specs.Settled.{settled_by}
use Rattle.scan.specs.Place.{ResumesWithin}
use Rattle.scan.proofs.Scanning.{taken_goes, taken_by_map, term_flag}
use Rattle.scan.proofs.Settling.{found_sharing, sharing_flag}
use Rattle.scan.proofs.Resuming.{head-resumes}

-- Below this number the classes meet all conditions; its condition is the next.
module _ (lots s : List ℕ) {m number : ℕ} (can : HasConditions s m) (more : number < condition_count s)
    (scanned : Scanning (lowest_taken (class_of lots)) s number) where
  -- They meet it too,
  pub met_here : meets_condition (class_of lots) (condition_at s (suc number)) ≡ true → Scanning (lowest_taken (class_of lots)) s (number + 1)
  met_here e = rw add-one (scanning_next (taken_goes (class_of lots)) scanned more e)

  module _ {head : ℕ} (head_is : head ≡ head_at s (number + 1)) where
    pub head_on : OnChain s head
    head_on = subst (OnChain s) (sym head_is) (head-on s can.accepted (number + 1) (omega arith) (omega (arith, more)))

    head_of : head ≡ head_at s (suc number)
    head_of = head_is ∙ ap (head_at s) (add-one number)

    module _ {at : ℕ} (walked : Passing (holds (class_of lots)) s head at) where
      -- by a true term,
      module _ (low : 1 ≤ at) {t : code.Term} (read : t ≡ term_record_at s at)
          (flag : beq (eqb (class_of lots t.a.0) (class_of lots t.b.0)) (eqb t.sign same_sign) ≡ true) where
        pub met_by_term : Scanning (lowest_taken (class_of lots)) s (number + 1)
        met_by_term =
            met_here
            (ap (λ (r : ℕ). meets_condition (class_of lots) (terms_from s r)) (sym head_of)
            ∙ some_found (holds (class_of lots)) (terms_from s head) (true_here can low walked read (term_flag (class_of lots) t.sign t.a.0 t.b.0 ∙ flag)))

        -- which settles it where its lots share a class;
        pub settled_by_term : eqb (class_of lots t.a.0) (class_of lots t.b.0) ≡ true → settled_by lots (condition_at s (suc number)) ≡ true
        settled_by_term shared =
            ap (λ (r : ℕ). settled_by lots (terms_from s r)) (sym head_of)
            ∙ found_sharing lots s (holds (class_of lots)) can.accepted head at walked low
            (sharing_flag lots (sign_at s at) (first_lot_at s at) (second_lot_at s at)
            (ap (λ (u : code.Term). eqb (class_of lots u.a.0) (class_of lots u.b.0)) (sym read) ∙ shared)
            (ap (λ (u : code.Term). beq (eqb (class_of lots u.a.0) (class_of lots u.b.0)) (eqb u.sign same_sign)) (sym read) ∙ flag))

      -- or its chain is over, and it has no term, or it is the one that is taken.
      module _ (over : at ≡ 0) where
        by_head : meets_condition (class_of lots) (condition_at s (suc number)) ≡ eqb head 0
        by_head =
            ap (λ (r : ℕ). meets_condition (class_of lots) (terms_from s r)) (sym head_of)
            ∙ chain_some (holds (class_of lots)) s can.accepted head head_on.within
            ∙ ap (λ (b : Bool). eqb head 0 || b) (ended (holds (class_of lots)) s can.accepted head at walked over)
            ∙ or-false (eqb head 0)

        pub met_withdrawn : head ≡ 0 → Scanning (lowest_taken (class_of lots)) s (number + 1)
        met_withdrawn zero = met_here (by_head ∙ eq-eqb head 0 zero)

        pub taken_here : head ≢ 0 → (ds : Decisions) → lots ≡ classes ds → ResumesWithin s (number + 1) head ds
        taken_here some ds says =
            head-resumes ds s (number + 1) head head_is head_on
            (sym (taken_by_map lots (conditions s) (found_here (taken_goes (class_of lots)) scanned more (by_head ∙ ne_eqb head 0 some)) ds says)
            ∙ ap (λ (k : ℕ). takes k (condition_at s k)) (sym (add-one number)))
