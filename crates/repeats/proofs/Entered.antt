-- The entries of two sheets, gathered one behind the other, have the conditions of the result: how many conditions and terms these are.
use Prim.Native.Nat.{ℕ, ◌+◌, ◌≤◌}
use mathlib.Core.List.{List, [], ◌++◌, flatten}
use mathlib.Core.Path.{◌≡◌, sym, ap, ap₂, subst, ◌∙◌}
use native.Mathlib.Omega.{arith}
use lib.ListN.{length, take, length-append, length-map}
use lib.Seq.{slice, length-take-le, drop-append_seam, take-append_seam}
use Rattle.std.proofs.lemmas.List.{drop-take}
use Rattle.buffers.specs.Lists.{All}
use Rattle.sheet.specs.Conditions.{Term, condition_at, conditions}
use Rattle.writer.proofs.Packing.{terms-append}
use Rattle.repeats.specs.declared.kept.Kept.{Kept}
use Rattle.repeats.specs.Repeats.{without_repeats, has_terms, merged_conditions}
use Rattle.repeats.specs.Inner.{number_in, EntryOf, kept_of, Gathered, Entered}
use Rattle.repeats.proofs.Result.{merged_halves}

-- As many conditions as entries.
kept_length : (s : List ℕ) (upto : ℕ) (entries : List ℕ) → upto ≤ length entries → length (kept_of s (take upto entries)) ≡ upto
kept_length s upto entries room = length-map (take upto entries) (λ e. condition_at s (number_in e)) ∙ length-take-le upto entries room

-- The array has the entries of s in its front, and behind them those of t.
module _ (s t : List ℕ) {middle front back : List ℕ} {a b : Kept} (first : Gathered s [] s middle a) (cut : front ≡ take a.upto middle) (second : Gathered s front t back b) where
  abbrev mine : List (List Term)
  mine = kept_of s front

  abbrev others : List (List Term)
  others = kept_of t (take b.upto back)

  front-length : length front ≡ a.upto
  front-length = ap length cut ∙ length-take-le a.upto middle first.room

  -- The front is as it was when its own were gathered,
  in_front : slice 0 a.upto (front ++ back) ≡ front
  in_front = rw (← front-length) (take-append_seam front back)

  behind : slice a.upto (a.upto + b.upto) (front ++ back) ≡ take b.upto back
  behind = drop-take a.upto b.upto (front ++ back) ∙ ap (take b.upto) (rw (← front-length) (drop-append_seam front back))

  -- and together they have the conditions of the result.
  halves : mine ++ others ≡ merged_conditions has_terms s t
  halves =
      let kept = ap (kept_of s) cut ∙ first.stay in
      ap₂ {C = List (List Term)} ◌++◌ kept (second.stay ∙ ap (λ (earlier : List (List Term)). without_repeats has_terms earlier (conditions t)) kept)
      ∙ sym (merged_halves has_terms s t)

  terms-first : length (flatten (kept_of s (take a.upto middle))) ≡ length (flatten mine)
  terms-first = ap (λ (es : List ℕ). length (flatten (kept_of s es))) (sym cut)

  counted : a.upto + b.upto ≡ length (merged_conditions has_terms s t)
  counted = omega (arith, ap length halves, length-append mine others, ap (λ (es : List ℕ). length (kept_of s es)) cut, kept_length s a.upto middle first.room, kept_length t b.upto back second.room)

  pub entered : Entered s t (front ++ back) (record { first = a.upto; upto = a.upto + b.upto; terms = a.terms + b.terms })
  entered =
      record {
        mine =
            record {
              order = omega arith;
              room = omega (arith, front-length, length-append front back);
              each = subst (All (EntryOf s)) (sym cut ∙ sym in_front) first.entered;
            };
        others =
            record {
              order = omega arith;
              room = omega (arith, front-length, length-append front back, second.room);
              each = subst (All (EntryOf t)) (sym behind) second.entered;
            };
        few = omega (arith, first.few, second.few);
        result = ap₂ {C = List (List Term)} ◌++◌ (ap (kept_of s) in_front) (ap (kept_of t) behind) ∙ halves;
        conditions' = counted;
        terms = omega (arith, ap (λ (tss : List (List Term)). length (flatten tss)) halves, terms-append mine others, first.terms, second.terms, terms-first);
      }
