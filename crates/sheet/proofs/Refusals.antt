-- A refusal's number and place tell which it is.
use Rattle.std.specs.Prelude.{Result, Ok, Err, IsErrAnd, MatchResult}
use Rattle.std.proofs.lemmas.Result.{err_from_is_err_and}
use mathlib.Core.Path.{◌≡◌, refl, ap, subst, ◌∙◌}
use Rattle.sheet.specs.declared.refusal.Refusal.{Refusal}
use Rattle.sheet.specs.declared.refusal.Refusal.TheVariants.{ShortHeader, TooManyLots, TooManyConditions, TooManyRecords, WrongLength, HeadTooHigh, IllFormed, ReachedTwice, NeverReached, VacantReached, ShortGrouping, FullStore, ShortForPacked, ShortForMerged, IllSized, NoSuchRecord, LeafStands, WrongNext, WrongEnd, TooDeep, TooManyMergedConditions, TooManyMergedRecords, NoSuchLimit, NoSuchLot, WrongCount}
use Rattle.sheet.specs.Refusals.{check_of, place_of, refusal_at}

pub refusal_at-numbers : (r : Refusal) → refusal_at (check_of r) (place_of r) ≡ r
refusal_at-numbers ShortHeader = refl
refusal_at-numbers TooManyLots = refl
refusal_at-numbers TooManyConditions = refl
refusal_at-numbers TooManyRecords = refl
refusal_at-numbers WrongLength = refl
refusal_at-numbers (HeadTooHigh c) = refl
refusal_at-numbers (IllFormed r) = refl
refusal_at-numbers (ReachedTwice r) = refl
refusal_at-numbers (NeverReached r) = refl
refusal_at-numbers (VacantReached r) = refl
refusal_at-numbers (ShortGrouping n) = refl
refusal_at-numbers (FullStore n) = refl
refusal_at-numbers (ShortForPacked n) = refl
refusal_at-numbers (ShortForMerged n) = refl
refusal_at-numbers IllSized = refl
refusal_at-numbers (NoSuchRecord n) = refl
refusal_at-numbers (LeafStands n) = refl
refusal_at-numbers (WrongNext n) = refl
refusal_at-numbers (WrongEnd n) = refl
refusal_at-numbers (TooDeep n) = refl
refusal_at-numbers TooManyMergedConditions = refl
refusal_at-numbers TooManyMergedRecords = refl
refusal_at-numbers (NoSuchLimit n) = refl
refusal_at-numbers (NoSuchLot n) = refl
refusal_at-numbers (WrongCount n) = refl

-- What the exit of a `?` returns that passes an error on,
pub passed_on_is : {A E : Type 0} {e : E} {r : Result A E} → IsErrAnd r (λ y. y ≡ e) → r ≡ Err e
passed_on_is {A} {E} {e} {r} h =
    let p = err_from_is_err_and r h in
    p.1 ∙ ap Err p.2

-- and what `map_err` was given, by what it gives.
module _ {A E D : Type 0} (P : E → D → Type 0) where
  pub mapped-ok : (r : Result A E) {q : Result A D} {x : A} → MatchResult r (λ y. q ≡ Ok y) (λ e. IsErrAnd q (P e)) → q ≡ Ok x → r ≡ Ok x
  mapped-ok (Ok y) h e = cc
  mapped-ok (Err d) {q} h e = let p = err_from_is_err_and q h in let same = p.1 in cc

  pub mapped-err : (r : Result A E) {q : Result A D} {d : D} → MatchResult r (λ y. q ≡ Ok y) (λ e. IsErrAnd q (P e)) → q ≡ Err d → (e : E) × (r ≡ Err e) × P e d
  mapped-err (Ok y) h e = cc
  mapped-err (Err x) {q} {d} h e =
      let p = err_from_is_err_and q h in
      let same : p.0 ≡ d = let other = p.1 in cc in
      (x, refl, subst (P x) same p.2)
