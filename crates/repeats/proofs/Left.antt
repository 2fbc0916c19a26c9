-- What stays where repeats are left out, for every rule of which conditions may be. Nothing here asks what a condition with no term counts for.
use Prim.Native.Nat.{ℕ, zero, suc, ◌≤◌, ◌<◌}
use mathlib.Core.Bool.{Bool, true, false, cond, ◌&&◌, ◌||◌, true≢false, false≢true}
use mathlib.Core.List.{List, [], ◌∷◌, ◌++◌, append-nil, flatten, Sublistᴰ}
use mathlib.Core.Logic.{◌≢◌}
use mathlib.Core.Path.{◌≡◌, refl, sym, ap, ◌∙◌}
use native.Mathlib.Omega.{arith}
use lib.ListN.{length, get_or, length-append}
use Rattle.buffers.specs.Lists.{All}
use Rattle.buffers.proofs.Lists.{all_map}
use Rattle.sheet.specs.Conditions.{Term}
use Rattle.repeats.specs.Repeats.{equal_conditions, repeats, without_repeats}
use Rattle.repeats.proofs.Equal.{conditions_equal, condition_itself, or_true, repeated_all, repeats-append, repeats_nth}

-- ---- which are the earlier ones

-- Two lists have the same conditions.
abbrev pub SameOnes : List (List Term) → List (List Term) → Type 0
SameOnes earlier other = (ts : List Term) → repeats ts earlier ≡ repeats ts other

-- One that is there already changes nothing,
pub known_same : (ts : List Term) (earlier : List (List Term)) → repeats ts earlier ≡ true → SameOnes (ts ∷ earlier) earlier
unfolding repeats
known_same ts earlier e us = go (equal_conditions us ts) refl
  where
    go : (b : Bool) → equal_conditions us ts ≡ b → (b || repeats us earlier) ≡ repeats us earlier
    go true q = sym (ap (λ (vs : List Term). repeats vs earlier) (conditions_equal us ts q) ∙ e)
    go false q = refl

-- and a condition may stand anywhere.
pub moved_same : (ts : List Term) (front back : List (List Term)) → SameOnes (ts ∷ front ++ back) (front ++ ts ∷ back)
unfolding repeats
moved_same ts front back us =
    rw (repeats-append us front back, repeats-append us front (ts ∷ back)) (go (equal_conditions us ts) (repeats us front) (repeats us back))
  where
    go : (p q r : Bool) → (p || (q || r)) ≡ (q || (p || r))
    go true true r = refl
    go true false r = refl
    go false q r = refl

behind_same : (front earlier other : List (List Term)) → SameOnes earlier other → SameOnes (front ++ earlier) (front ++ other)
behind_same front earlier other same us = rw (repeats-append us front earlier, repeats-append us front other, same us)

before_same : (earlier other back : List (List Term)) → SameOnes earlier other → SameOnes (earlier ++ back) (other ++ back)
before_same earlier other back same us = rw (repeats-append us earlier back, repeats-append us other back, same us)

module _ (may_leave_out : List Term → Bool) where
  -- A condition is left out, or it stays.
  data Step (earlier : List (List Term)) (ts : List Term) (rest : List (List Term)) : List (List Term) → Type 0 where
    left_out_lem : may_leave_out ts ≡ true → repeats ts earlier ≡ true → Step earlier ts rest rest
    stays : (may_leave_out ts && repeats ts earlier) ≡ false → Step earlier ts rest (ts ∷ rest)

  step : (earlier : List (List Term)) (ts : List Term) (tss : List (List Term))
      → Step earlier ts (without_repeats may_leave_out (ts ∷ earlier) tss) (without_repeats may_leave_out earlier (ts ∷ tss))
  unfolding without_repeats
  step earlier ts tss = go (may_leave_out ts) (repeats ts earlier) refl refl
    where
      rest : List (List Term)
      rest = without_repeats may_leave_out (ts ∷ earlier) tss

      go : (p q : Bool) → may_leave_out ts ≡ p → repeats ts earlier ≡ q → Step earlier ts rest (cond (p && q) rest (ts ∷ rest))
      go true true e f = left_out_lem e f
      go true false e f = stays (rw (e, f))
      go false q e f = stays (rw e)

  -- What stays asks only which conditions the earlier ones are.
  pub left-same : (earlier other tss : List (List Term)) → SameOnes earlier other → without_repeats may_leave_out earlier tss ≡ without_repeats may_leave_out other tss
  unfolding without_repeats
  left-same earlier other [] same = refl
  left-same earlier other (ts ∷ tss) same = rw (same ts, left-same (ts ∷ earlier) (ts ∷ other) tss (behind_same (ts ∷ []) earlier other same))

  -- ---- two lists, one behind the other

  pub left-append : (earlier tss uss : List (List Term))
      → without_repeats may_leave_out earlier (tss ++ uss)
      ≡ without_repeats may_leave_out earlier tss ++ without_repeats may_leave_out (earlier ++ without_repeats may_leave_out earlier tss) uss
  unfolding without_repeats
  left-append earlier [] uss = rw (append-nil earlier)
  left-append earlier (ts ∷ tss) uss = go (may_leave_out ts) (repeats ts earlier) refl (left-append (ts ∷ earlier) tss uss)
    where
      all : List (List Term)
      all = without_repeats may_leave_out (ts ∷ earlier) (tss ++ uss)

      stay : List (List Term)
      stay = without_repeats may_leave_out (ts ∷ earlier) tss

      among : (other : List (List Term)) → SameOnes (ts ∷ earlier ++ stay) other → without_repeats may_leave_out (ts ∷ earlier ++ stay) uss ≡ without_repeats may_leave_out other uss
      among other = left-same (ts ∷ earlier ++ stay) other uss

      moved : SameOnes (ts ∷ earlier ++ stay) (earlier ++ ts ∷ stay)
      moved = moved_same ts earlier stay

      go : (p q : Bool) → repeats ts earlier ≡ q → all ≡ stay ++ without_repeats may_leave_out (ts ∷ earlier ++ stay) uss
          → cond (p && q) all (ts ∷ all) ≡ cond (p && q) stay (ts ∷ stay) ++ without_repeats may_leave_out (earlier ++ cond (p && q) stay (ts ∷ stay)) uss
      go true true e whole = whole ∙ rw (among (earlier ++ stay) (before_same (ts ∷ earlier) earlier stay (known_same ts earlier e)))
      go true false e whole = rw (whole, among (earlier ++ ts ∷ stay) moved)
      go false q e whole = rw (whole, among (earlier ++ ts ∷ stay) moved)

  -- ---- order

  -- A part of the list, in its order.
  pub left_part : (earlier tss : List (List Term)) → Sublistᴰ (without_repeats may_leave_out earlier tss) tss
  unfolding without_repeats
  left_part earlier [] = Sublistᴰ.slnil
  left_part earlier (ts ∷ tss) = go (step earlier ts tss) (left_part (ts ∷ earlier) tss)
    where
      go : {rest stay : List (List Term)} → Step earlier ts rest stay → Sublistᴰ rest tss → Sublistᴰ stay (ts ∷ tss)
      go (left_out_lem may e) part = Sublistᴰ.cons part
      go (stays e) part = Sublistᴰ.cons-cons refl part

  -- It has no more conditions, and no more terms.
  pub left-few : (earlier tss : List (List Term)) → length (without_repeats may_leave_out earlier tss) ≤ length tss
  unfolding without_repeats
  left-few earlier [] = omega arith
  left-few earlier (ts ∷ tss) = go (step earlier ts tss) (left-few (ts ∷ earlier) tss)
    where
      go : {rest stay : List (List Term)} → Step earlier ts rest stay → length rest ≤ length tss → length stay ≤ suc (length tss)
      go (left_out_lem may e) few = omega arith
      go (stays e) few = omega arith

  pub left-terms : (earlier tss : List (List Term)) → length (flatten (without_repeats may_leave_out earlier tss)) ≤ length (flatten tss)
  unfolding without_repeats flatten
  left-terms earlier [] = omega arith
  left-terms earlier (ts ∷ tss) = go (step earlier ts tss) (left-terms (ts ∷ earlier) tss)
    where
      go : {rest stay : List (List Term)} → Step earlier ts rest stay → length (flatten rest) ≤ length (flatten tss) → length (flatten stay) ≤ length (ts ++ flatten tss)
      go (left_out_lem may e) few = omega (arith, length-append ts (flatten tss))
      go {rest = rest} (stays e) few = omega (arith, length-append ts (flatten tss), length-append ts (flatten rest))

  -- ---- what holds of each condition

  module _ (P : List Term → Type 0) where
    -- holds of each that stays;
    pub left_all : (earlier tss : List (List Term)) → All P tss → All P (without_repeats may_leave_out earlier tss)
    unfolding without_repeats
    left_all earlier [] all = tt
    left_all earlier (ts ∷ tss) all = go (step earlier ts tss) (left_all (ts ∷ earlier) tss all.1)
      where
        go : {rest stay : List (List Term)} → Step earlier ts rest stay → All P rest → All P stay
        go (left_out_lem may e) rest = rest
        go (stays e) rest = (all.0, rest)

    -- and what holds of each that stays, and of the earlier ones, holds of all.
    pub all_left : (earlier tss : List (List Term)) → All P earlier → All P (without_repeats may_leave_out earlier tss) → All P tss
    all_left earlier [] before stay = tt
    all_left earlier (ts ∷ tss) before stay = go (step earlier ts tss) stay (all_left (ts ∷ earlier) tss)
      where
        go : {rest stay : List (List Term)} → Step earlier ts rest stay → All P stay → (P ts × All P earlier → All P rest → All P tss) → P ts × All P tss
        go (left_out_lem may e) stay further = let one = repeated_all P ts earlier e before in (one, further (one, before) stay)
        go (stays e) stay further = (stay.0, further (stay.0, before) stay.1)

  -- ---- no two that may be left out are equal

  -- Of these conditions, none that may be left out stands again further on.
  abbrev pub Unrepeated : List (List Term) → Type 0
  Unrepeated [] = Unit {0}
  Unrepeated (ts ∷ tss) = (may_leave_out ts ≡ true → repeats ts tss ≡ false) × Unrepeated tss

  -- None that stays and may be left out is an earlier one,
  left_new : (earlier tss : List (List Term)) (ts : List Term) → may_leave_out ts ≡ true → repeats ts earlier ≡ true → repeats ts (without_repeats may_leave_out earlier tss) ≡ false
  unfolding repeats without_repeats
  left_new earlier [] ts may before = refl
  left_new earlier (us ∷ tss) ts may before = go (step earlier us tss) (left_new (us ∷ earlier) tss ts may (rw before (or_true (equal_conditions ts us))))
    where
      other : (b : Bool) → equal_conditions ts us ≡ b → (may_leave_out us && repeats us earlier) ≡ false → b ≡ false
      other true q e = let same = conditions_equal ts us q in absurd (true≢false (sym (rw (← same, may, before)) ∙ e))
      other false q e = refl

      go : {rest stay : List (List Term)} → Step earlier us rest stay → repeats ts rest ≡ false → repeats ts stay ≡ false
      go (left_out_lem may' e) none = none
      go (stays e) none = rw (other (equal_conditions ts us) refl e, none)

  -- so none stands twice.
  pub left-unrepeated : (earlier tss : List (List Term)) → Unrepeated (without_repeats may_leave_out earlier tss)
  unfolding without_repeats repeats
  left-unrepeated earlier [] = tt
  left-unrepeated earlier (ts ∷ tss) = go (step earlier ts tss) (left-unrepeated (ts ∷ earlier) tss) (left_new (ts ∷ earlier) tss ts)
    where
      go : {rest stay : List (List Term)} → Step earlier ts rest stay → Unrepeated rest → (may_leave_out ts ≡ true → repeats ts (ts ∷ earlier) ≡ true → repeats ts rest ≡ false) → Unrepeated stay
      go (left_out_lem may e) un new = un
      go (stays e) un new = ((λ may. new may (rw (condition_itself ts))), un)

  -- By places: of two that are equal, the first may not be left out, and so neither may the other.
  pub unrepeated_at : (tss : List (List Term)) → Unrepeated tss → (i j : ℕ) → i < j → j < length tss → may_leave_out (get_or tss i []) ≡ true → get_or tss i [] ≢ get_or tss j []
  unrepeated_at [] un i j low high may e = omega arith
  unrepeated_at (ts ∷ tss) un i zero low high may e = omega arith
  unrepeated_at (ts ∷ tss) un zero (suc j) low high may e =
      false≢true (sym (un.0 may) ∙ ap (λ (us : List Term). repeats us tss) e ∙ repeats_nth tss j (omega arith))
  unrepeated_at (ts ∷ tss) un (suc i) (suc j) low high may e = unrepeated_at tss un.1 i j (omega arith) (omega arith) may e

-- ---- conditions that are all earlier ones

-- Each of a list is one of them.
pub each-repeats : (tss : List (List Term)) → All (λ (ts : List Term). repeats ts tss ≡ true) tss
unfolding repeats
each-repeats [] = tt
each-repeats (ts ∷ tss) =
    (rw (condition_itself ts), all_map (λ (us : List Term) (e : repeats us tss ≡ true). rw e (or_true (equal_conditions us ts))) tss (each-repeats tss))

module _ (may_leave_out : List Term → Bool) where
  -- Each of a list is one of those that stay,
  pub left_every : (tss : List (List Term)) → All (λ (ts : List Term). repeats ts (without_repeats may_leave_out [] tss) ≡ true) tss
  left_every tss =
      let stay = without_repeats may_leave_out [] tss in
      all_left may_leave_out (λ ts. repeats ts stay ≡ true) [] tss tt (each-repeats stay)

  -- and of conditions that are all earlier ones, just those stay that may not be left out.
  abbrev pub must_stay : List (List Term) → List (List Term)
  must_stay [] = []
  must_stay (ts ∷ tss) = cond (may_leave_out ts) (must_stay tss) (ts ∷ must_stay tss)

  pub left_known : (earlier tss : List (List Term)) → All (λ (ts : List Term). repeats ts earlier ≡ true) tss → without_repeats may_leave_out earlier tss ≡ must_stay tss
  unfolding without_repeats
  left_known earlier [] all = refl
  left_known earlier (ts ∷ tss) all =
      rw all.0 (go (may_leave_out ts) (left-same may_leave_out (ts ∷ earlier) earlier tss (known_same ts earlier all.0) ∙ left_known earlier tss all.1))
    where
      go : (b : Bool) {rest stay : List (List Term)} → rest ≡ stay → cond (b && true) rest (ts ∷ rest) ≡ cond b stay (ts ∷ stay)
      go true e = e
      go false e = ap (λ (rest : List (List Term)). ts ∷ rest) e
