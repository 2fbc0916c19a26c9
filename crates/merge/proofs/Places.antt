-- Where the conditions that stay come to stand, for every rule of which may be left out.
use Prim.Native.Nat.{ℕ, zero, suc, ◌+◌, ◌-◌, ◌≤◌, ◌<◌}
use mathlib.Core.Bool.{Bool, true, false, cond}
use mathlib.Core.List.{List, [], ◌∷◌, ◌++◌}
use mathlib.Core.Path.{◌≡◌, refl, sym, ap, subst, ◌∙◌}
use native.Mathlib.Omega.{arith}
use lib.ListN.{length, get_or, take, drop, length-append, take-append-drop, get_or-append}
use lib.Seq.{take-suc, drop-cons, take-append-le, get_or-append_seam}
use Rattle.sheet.specs.Conditions.{Term, conditions}
use Rattle.repeats.specs.Repeats.{repeats, without_repeats, has_terms, merged_conditions}
use Rattle.repeats.proofs.Equal.{repeated_all}
use Rattle.repeats.proofs.Left.{SameOnes, each-repeats, left-same, left-append, left_all, left_every}
use Rattle.merge.specs.Places.{StandsAt, left_out, left_out_before}
use Rattle.merge.specs.Promises.{Placed}

module _ (may_leave_out : List Term → Bool) where
  abbrev stay : List (List Term) → List (List Term)
  stay tss = without_repeats may_leave_out [] tss

  -- Those that stay are the same conditions as all of them.
  stay-same : (tss : List (List Term)) → SameOnes (stay tss) tss
  stay-same tss us = go (repeats us (stay tss)) (repeats us tss) refl refl
    where
      go : (p q : Bool) → repeats us (stay tss) ≡ p → repeats us tss ≡ q → p ≡ q
      go true true e f = refl
      go true false e f =
          sym (repeated_all (λ ts. repeats ts tss ≡ true) us (stay tss) e (left_all may_leave_out (λ ts. repeats ts tss ≡ true) [] tss (each-repeats tss))) ∙ f
      go false true e f = sym e ∙ repeated_all (λ ts. repeats ts (stay tss) ≡ true) us tss f (left_every may_leave_out tss)
      go false false e f = refl

  -- What stays of two lists, one behind the other, is what stays of the first, and what stays of the second behind the first.
  stay-append : (tss uss : List (List Term)) → stay (tss ++ uss) ≡ stay tss ++ without_repeats may_leave_out tss uss
  stay-append tss uss =
      left-append may_leave_out [] tss uss
      ∙ ap (λ (rest : List (List Term)). stay tss ++ rest) (left-same may_leave_out (stay tss) tss uss (stay-same tss))

  module _ (tss : List (List Term)) where
    -- One condition more, left out or not.
    stay-next : (i : ℕ) → i < length tss → stay (take (suc i) tss) ≡ stay (take i tss) ++ cond (left_out may_leave_out tss i) [] (get_or tss i [] ∷ [])
    unfolding without_repeats left_out
    stay-next i h = ap stay (take-suc tss i [] h) ∙ stay-append (take i tss) (get_or tss i [] ∷ [])

    -- As many stay of those before place i as aren't left out,
    pub stay-before : (i : ℕ) → i ≤ length tss → length (stay (take i tss)) + left_out_before may_leave_out tss i ≡ i
    unfolding left_out_before without_repeats
    stay-before zero h = refl
    stay-before (suc i) h = go (left_out may_leave_out tss i) (ap length (stay-next i h)) (stay-before i (omega arith))
      where
        go : (b : Bool) → length (stay (take (suc i) tss)) ≡ length (stay (take i tss) ++ cond b [] (get_or tss i [] ∷ []))
            → length (stay (take i tss)) + left_out_before may_leave_out tss i ≡ i
            → length (stay (take (suc i) tss)) + (left_out_before may_leave_out tss i + cond b 1 0) ≡ suc i
        go true e all = omega (arith, length-append (stay (take i tss)) [])
        go false e all = omega (arith, length-append (stay (take i tss)) (get_or tss i [] ∷ []))

    -- and behind these stands the one at place i, where it isn't left out.
    pub stays_at : (i : ℕ) (ts : List Term) → StandsAt tss i ts → left_out may_leave_out tss i ≡ false → StandsAt (stay tss) (i - left_out_before may_leave_out tss i) ts
    unfolding left_out without_repeats
    stays_at i ts stands e = subst (λ (j : ℕ). StandsAt (stay tss) j ts) place (rw whole here)
      where
        front : List (List Term)
        front = stay (take i tss)

        back : List (List Term)
        back = without_repeats may_leave_out (get_or tss i [] ∷ take i tss) (drop (suc i) tss)

        place : length front ≡ i - left_out_before may_leave_out tss i
        place = omega (arith, stay-before i (omega (arith, stands.there)))

        kept : without_repeats may_leave_out (take i tss) (get_or tss i [] ∷ drop (suc i) tss) ≡ get_or tss i [] ∷ back
        kept = rw e

        whole : stay tss ≡ front ++ get_or tss i [] ∷ back
        whole =
            ap stay (sym (take-append-drop i tss))
            ∙ stay-append (take i tss) (drop i tss)
            ∙ ap (λ (rest : List (List Term)). front ++ without_repeats may_leave_out (take i tss) rest) (drop-cons tss i [] stands.there)
            ∙ ap (λ (rest : List (List Term)). front ++ rest) kept

        here : StandsAt (front ++ get_or tss i [] ∷ back) (length front) ts
        here =
            record {
              there = omega (arith, length-append front (get_or tss i [] ∷ back));
              this = get_or-append_seam front (get_or tss i []) back [] ∙ stands.this;
            }

    -- What is left out before a place asks only for the conditions before it.
    pub before-front : (uss : List (List Term)) (i : ℕ) → i ≤ length tss → left_out_before may_leave_out (tss ++ uss) i ≡ left_out_before may_leave_out tss i
    unfolding left_out_before left_out
    before-front uss zero h = refl
    before-front uss (suc i) h = rw (before-front uss i (omega arith), get_or-append tss uss [] i h, take-append-le i tss uss (omega arith))

-- ---- where only conditions with terms may be left out

-- A withdrawn condition isn't.
pub withdrawn_stays : (tss : List (List Term)) (i : ℕ) → get_or tss i [] ≡ [] → left_out has_terms tss i ≡ false
unfolding left_out
withdrawn_stays tss i e = rw e

-- So in a sheet that has the conditions of the result, all places are kept.
pub placed : (w s t : List ℕ) → conditions w ≡ merged_conditions has_terms s t → Placed w s t
unfolding merged_conditions
placed w s t e =
    let both = conditions s ++ conditions t in
    record {
      withdrawn = λ i stands. rw e (stays_at has_terms both i [] stands (withdrawn_stays both i stands.this));
      others = λ i ts stands left. rw e (stays_at has_terms both i ts stands left);
    }
