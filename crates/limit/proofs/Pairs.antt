-- The pairs of lots 0 to n that are not decided are at most n (n + 1) / 2, and fall when one of them is decided.
use Prim.Native.Nat.{ℕ, zero, suc, ◌+◌, ◌*◌, ◌≤◌, ◌<◌}
use mathlib.Core.Bool.{Bool, true, false, ◌||◌, false≢true}
use mathlib.Core.List.{List, [], ◌∷◌, ◌++◌, map}
use mathlib.Core.Logic.{inl, inr}
use mathlib.Core.Path.{◌≡◌, refl, sym, ap, ap₂, ◌∙◌}
use native.Mathlib.Nat.{mul-suc, suc-mul, mul-le-mul}
use native.Mathlib.Omega.{arith}
use borrow.Author.Tests.{eqb-true, eqb-false, eq-eqb, ltb-true, ltb-false}
use lib.Dec.{eqb, ltb}
use lib.ListN.{length}
use Rattle.sheet.specs.Format.{most_lots}
use Rattle.sheet.specs.Conditions.{Term, same, apart, count_up}
use Rattle.sheet.proofs.Ranges.{length-count_up}
use Rattle.equality.specs.Node.{Decisions, classes, smallest_lot}
use Rattle.equality.specs.Search.{same_terms}
use Rattle.equality.specs.Opens.{closed, open_in, opens}
use Rattle.equality.proofs.Truth.{marked_sym}
use Rattle.equality.proofs.Opens.{opens-same, Further, opens_fall, opens_fewer}
use Rattle.limit.specs.Meaning.{Among}
use Rattle.limit.specs.Search.{pair_count, pairs_from, undecided}
use Rattle.limit.proofs.Among.{among-left, among_right, among_along}

-- ---- how many

same-append : (ts us : List Term) → same_terms (ts ++ us) ≡ same_terms ts + same_terms us
unfolding same_terms
same-append [] us = omega arith
same-append (same a b ∷ ts) us = omega (arith, same-append ts us)
same-append (apart a b ∷ ts) us = same-append ts us

same_map : (a : ℕ) (l : List ℕ) → same_terms (map (same a) l) ≡ length l
unfolding same_terms
same_map a [] = refl
same_map a (b ∷ l) = ap suc (same_map a l)

pairs_double : (k from : ℕ) → same_terms (pairs_from (suc k) from) + same_terms (pairs_from (suc k) from) ≡ k * suc k
unfolding pairs_from count_up same_terms
pairs_double zero from = refl
pairs_double (suc k) from =
    omega (
      arith,
      same-append (map (same from) (count_up (suc k) (suc from))) (pairs_from (suc k) (suc from)),
      same_map from (count_up (suc k) (suc from)),
      length-count_up (suc k) (suc from),
      pairs_double k (suc from),
      mul-suc (suc k) (suc k),
      suc-mul k (suc k),
    )

pub undecided_most : (n : ℕ) (ds : Decisions) → undecided n ds ≤ pair_count n
undecided_most n ds = omega (arith, opens-same ds (pairs_from (suc n) 0), pairs_double n 0)

-- 8,256 is the most for any sheet.
pub most_pairs : (n : ℕ) → n ≤ most_lots → pair_count n ≤ 8256
most_pairs n h =
    let next : suc n ≤ 129 = omega arith in
    let product : n * suc n ≤ 128 * 129 = mul-le-mul h next in
    omega arith

-- ---- each pair is one of them

pair_among : (a b count from : ℕ) → from ≤ a → a < b → b < from + count → Among (same a b) (pairs_from count from)
unfolding pairs_from
pair_among a b zero from low less high = absurd (omega arith)
pair_among a b (suc count) from low less high = go (eqb a from) refl (λ l. pair_among a b count (suc from) l less (omega arith))
  where
    go : (p : Bool) → eqb a from ≡ p → (suc from ≤ a → Among (same a b) (pairs_from count (suc from)))
        → Among (same a b) (map (same from) (count_up count (suc from)) ++ pairs_from count (suc from))
    go true q rest =
        let here : a ≡ from = eqb-true a from q in
        among-left (same a b) (map (same from) (count_up count (suc from))) (pairs_from count (suc from))
        (rw here (among_along (same from) count (suc from) b (omega arith) (omega arith)))
    go false q rest =
        among_right (same a b) (map (same from) (count_up count (suc from))) (pairs_from count (suc from)) (rest (omega (arith, eqb-false a from q)))

-- ---- a pair more is decided

eqb_sym : (x y : ℕ) → eqb x y ≡ eqb y x
eqb_sym x y = go (eqb x y) (eqb y x) refl refl
  where
    go : (p q : Bool) → eqb x y ≡ p → eqb y x ≡ q → p ≡ q
    go true true ep eq = refl
    go true false ep eq = absurd (eqb-false y x eq (sym (eqb-true x y ep)))
    go false true ep eq = absurd (eqb-false x y ep (sym (eqb-true y x eq)))
    go false false ep eq = refl

closed_sym : (ds : Decisions) (a b : ℕ) → closed ds a b ≡ closed ds b a
closed_sym ds a b = ap₂ ◌||◌ (eqb_sym (smallest_lot ds a) (smallest_lot ds b)) (marked_sym (classes ds) ds (smallest_lot ds a) (smallest_lot ds b))

closed_self : (ds : Decisions) (a : ℕ) → closed ds a a ≡ true
closed_self ds a = simp (eq-eqb (smallest_lot ds a) (smallest_lot ds a) refl)

module _ (ds ds' : Decisions) (further : Further ds ds') where
  -- A "same" term that was open and is closed makes the open ones fewer.
  among_fewer : (a b : ℕ) → closed ds a b ≡ false → closed ds' a b ≡ true → (ts : List Term) → Among (same a b) ts → opens ds' ts < opens ds ts
  unfolding open_in
  among_fewer a b open' closed' [] m = absurd m
  among_fewer a b open' closed' (t ∷ ts) (inl e) = rw (← e) (opens_fewer ds ds' further a b open' closed' [] ts)
  among_fewer a b open' closed' (t ∷ ts) (inr m) = omega (arith, opens_fall ds ds' further (t ∷ []), among_fewer a b open' closed' ts m)

  -- The undecided pairs are fewer.
  pub undecided_falls : (n a b : ℕ) → a ≤ n → b ≤ n → closed ds a b ≡ false → closed ds' a b ≡ true → undecided n ds' < undecided n ds
  undecided_falls n a b ha hb open' closed' = go (ltb a b) refl (ltb b a) refl
    where
      rising : (x y : ℕ) → x < y → y ≤ n → closed ds x y ≡ false → closed ds' x y ≡ true → opens ds' (pairs_from (suc n) 0) < opens ds (pairs_from (suc n) 0)
      rising x y less high o c = among_fewer x y o c (pairs_from (suc n) 0) (pair_among x y (suc n) 0 (omega arith) less (omega arith))

      go : (p : Bool) → ltb a b ≡ p → (q : Bool) → ltb b a ≡ q → opens ds' (pairs_from (suc n) 0) < opens ds (pairs_from (suc n) 0)
      go true ep q eq = rising a b (ltb-true a b ep) hb open' closed'
      go false ep true eq = rising b a (ltb-true b a eq) ha (closed_sym ds b a ∙ open') (closed_sym ds' b a ∙ closed')
      go false ep false eq =
          let equal : a ≡ b = omega (arith, ltb-false a b ep, ltb-false b a eq) in
          absurd (false≢true (sym open' ∙ ap (closed ds a) (sym equal) ∙ closed_self ds a))
