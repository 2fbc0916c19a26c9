-- The converse of `sound`: a sheet is accepted where all is so that the checks look for.
use Prim.Native.Nat.{ℕ}
use mathlib.Core.Bool.{Bool, true, false, not, ◌||◌, and-eq-true_iff}
use mathlib.Core.List.{List}
use mathlib.Core.Logic.{◌⊎◌, inl, inr}
use mathlib.Core.Path.{◌≡◌, refl, ap}
use native.Mathlib.Omega.{arith}
use lib.Dec.{eqb}
use borrow.Author.Tests.{le-ltb, le-leb, eq-eqb}
use Rattle.sheet.specs.Verdicts.{Passes}
use Rattle.sheet.specs.Format.{lowest_lot, same_sign, apart_sign, vacant}
use Rattle.sheet.specs.Checks.{check1, check2, check3, check4, check5, check17_and6, check7, first_refusal, well_formed, sheet_checks_with, sheet_verdict_with, Accepted}
use Rattle.sheet.proofs.Verdicts.{passes-or_else, passes-refuses_if, passes_lowest}
use Rattle.sheet.proofs.Accepted.{lot_in, SoundRecord, Sound, header-whole}

-- ---- from facts to tests

-- Of a sign, of a record that may be vacant, of one that isn't.
sign_passes : (sign : ℕ) → (sign ≡ same_sign) ⊎ (sign ≡ apart_sign) → (eqb sign same_sign || eqb sign apart_sign) ≡ true
sign_passes sign (inl e) = rw e
sign_passes sign (inr e) = rw e

vacant-or : (v : Bool) {b : Bool} → (v ≡ false → b ≡ true) → (v || b) ≡ true
vacant-or true other = refl
vacant-or false other = other refl

record_passes : {s : List ℕ} {r : ℕ} → SoundRecord s r → well_formed lowest_lot s r ≡ true
unfolding well_formed
record_passes h =
    (and-eq-true_iff _ _).1 (
      sign_passes _ h.sign,
      (and-eq-true_iff _ _).1 (
        eq-eqb _ _ h.spare,
        (and-eq-true_iff _ _).1 (
          (lot_in _ _).1 h.first,
          (and-eq-true_iff _ _).1 ((lot_in _ _).1 h.second, le-leb _ _ h.next),
        ),
      ),
    )

-- ---- each check passes

module _ (s : List ℕ) (h : Sound s) where
  one_passes : check1 s ≡ Passes
  unfolding check1
  one_passes = passes-refuses_if _ 1 0 (le-ltb _ _ (header-whole h.header))

  two-passes : check2 s ≡ Passes
  unfolding check2
  two-passes =
      passes-or_else _ _ (passes-refuses_if _ 2 1 (le-ltb _ _ h.header.lots))
      (passes-or_else _ _ (passes-refuses_if _ 2 2 (le-ltb _ _ h.header.conditions))
      (passes-refuses_if _ 2 3 (le-ltb _ _ h.header.records)))

  three_passes : check3 s ≡ Passes
  unfolding check3
  three_passes = passes-refuses_if _ 3 0 (ap not (eq-eqb _ _ h.header.whole))

  four_passes : check4 s ≡ Passes
  unfolding check4
  four_passes = passes_lowest 4 _ _ 1 (λ c low high. le-ltb _ _ (h.heads c low (omega arith)))

  five_passes : check5 lowest_lot s ≡ Passes
  unfolding check5
  five_passes = passes_lowest 5 _ _ 1 (λ r low high. ap not (vacant-or (vacant s r) (λ f. record_passes (h.records r low (omega arith) f))))

  six_passes : check17_and6 s ≡ Passes
  unfolding check17_and6
  six_passes = rw h.walk

  seven_passes : check7 s ≡ Passes
  unfolding check7
  seven_passes = rw h.walk (passes_lowest 7 _ _ 1 (λ r low high. ap not (vacant-or (vacant s r) (h.every r low (omega arith)))))

  -- So the sheet is accepted.
  pub accepted : Accepted s
  unfolding sheet_verdict_with sheet_checks_with first_refusal
  accepted = rw (one_passes, two-passes, three_passes, four_passes, five_passes, six_passes, seven_passes)
