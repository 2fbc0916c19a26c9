-- The sheet that a merge writes (document 02, job 4), for every rule of which conditions may be left out.
use Prim.Native.Nat.{ℕ, max, ◌+◌, ◌≤◌}
use mathlib.Core.Bool.{Bool}
use mathlib.Core.List.{List, [], ◌∷◌, ◌++◌, flatten}
use mathlib.Core.Logic.{◌↔◌}
use mathlib.Core.Path.{◌≡◌, refl, ap, ap₂, ◌∙◌}
use native.Mathlib.Nat.{max-le, le-max_left, le-max_right}
use native.Mathlib.Omega.{arith}
use lib.ListN.{length, length-append}
use Rattle.buffers.specs.Lists.{All}
use Rattle.buffers.proofs.Lists.{all_map, all_both, all_first, all_second}
use Rattle.sheet.specs.Format.{most_conditions, most_records, lot_count, condition_count}
use Rattle.sheet.specs.Checks.{Accepted}
use Rattle.sheet.specs.Conditions.{Term, TermIn, conditions}
use Rattle.sheet.proofs.Conditions.{conditions-length}
use Rattle.canonical.specs.Canonical.{canonical, Within}
use Rattle.canonical.proofs.Limits.{accepted-within}
use Rattle.canonical.proofs.Canonical.{canonical-length, canonical-lots, canonical-accepted, canonical-conditions}
use Rattle.equality.specs.Meaning.{MeetsCondition, MeetsAll, Meets}
use Rattle.repack.specs.Repack.{repacked}
use Rattle.writer.proofs.Packing.{terms-append}
use Rattle.repeats.specs.Repeats.{without_repeats, has_terms, merged_conditions}
use Rattle.repeats.proofs.Left.{left-few, left-terms, left_all, all_left, left_every, must_stay, left_known}
use Rattle.repeats.proofs.Result.{merged_halves}
use Rattle.merge.specs.Merge.{merged_lots, merged, merged_length}

-- Lots of fewer are lots of more.
more_lots : (n m : ℕ) → n ≤ m → (tss : List (List Term)) → All (All (TermIn n)) tss → All (All (TermIn m)) tss
more_lots n m h = all_map (all_map (λ t within. (record { low = within.0.low; high = omega (arith, within.0.high) }, record { low = within.1.low; high = omega (arith, within.1.high) })))

module _ (may_leave_out : List Term → Bool) (s t : List ℕ) where
  abbrev result : List (List Term)
  result = merged_conditions may_leave_out s t

  -- ---- what it says

  -- What holds of each condition of the result holds of each of the two sheets, and conversely;
  module _ (P : List Term → Type 0) where
    pub merged-each : All P result ↔ All P (conditions s) × All P (conditions t)
    unfolding merged_conditions
    merged-each = (
      (λ all. let both = all_left may_leave_out P [] (conditions s ++ conditions t) tt all in (all_first P (conditions s) (conditions t) both, all_second P (conditions s) (conditions t) both)),
      (λ h. left_all may_leave_out P [] (conditions s ++ conditions t) (all_both P (conditions s) (conditions t) h.0 h.1)),
    )

  -- so it is met by those who meet both, with values of any type.
  pub merged_meets_all : {A : Type 0} (f : ℕ → A) → (MeetsAll f result ↔ Meets f s × Meets f t)
  merged_meets_all f = merged-each (MeetsCondition f)

  -- ---- its bytes

  pub merged-length : length (merged may_leave_out s t) ≡ merged_length may_leave_out s t
  merged-length = canonical-length (merged_lots s t) result

  -- The result of accepted sheets has only lots of its own. Where 18 doesn't refuse it,
  module _ (ok : Accepted s) (ok' : Accepted t) (few : length result ≤ most_conditions) (short : length (flatten result) ≤ most_records) where
    within : Within (merged_lots s t) result
    within =
        let first = accepted-within s ok in
        let second = accepted-within t ok' in
        record {
          lots = max-le first.lots second.lots;
          conditions = few;
          records = short;
          terms = (merged-each (All (TermIn (merged_lots s t)))).1 (
            more_lots (lot_count s) (merged_lots s t) (le-max_left (lot_count s) (lot_count t)) (conditions s) first.terms,
            more_lots (lot_count t) (merged_lots s t) (le-max_right (lot_count s) (lot_count t)) (conditions t) second.terms,
          );
        }

    -- it is accepted,
    pub merged-accepted : Accepted (merged may_leave_out s t)
    merged-accepted = canonical-accepted (merged_lots s t) result within

    -- has the larger number of lots,
    pub merged-lots : lot_count (merged may_leave_out s t) ≡ max (lot_count s) (lot_count t)
    merged-lots = canonical-lots (merged_lots s t) result within

    -- and the conditions of the result;
    pub merged-conditions : conditions (merged may_leave_out s t) ≡ result
    merged-conditions = canonical-conditions (merged_lots s t) result within

    -- is packed,
    pub merged-packed : repacked (merged may_leave_out s t) ≡ merged may_leave_out s t
    merged-packed = ap₂ canonical merged-lots merged-conditions

    -- and is met exactly by those who meet both sheets, with values of any type.
    pub merged-meets : {A : Type 0} (f : ℕ → A) → (Meets f (merged may_leave_out s t) ↔ Meets f s × Meets f t)
    merged-meets f = rw merged-conditions (merged_meets_all f)

-- ---- a sheet with itself

-- It has its conditions without its repeats, and then once more those that may not be left out;
pub itself_conditions : (may_leave_out : List Term → Bool) (s : List ℕ)
    → merged_conditions may_leave_out s s ≡ without_repeats may_leave_out [] (conditions s) ++ must_stay may_leave_out (conditions s)
itself_conditions may_leave_out s =
    merged_halves may_leave_out s s
    ∙ rw (left_known may_leave_out (without_repeats may_leave_out [] (conditions s)) (conditions s) (left_every may_leave_out (conditions s)))

-- its bytes are packed from these.
pub merged_itself : (may_leave_out : List Term → Bool) (s : List ℕ)
    → merged may_leave_out s s ≡ canonical (lot_count s) (without_repeats may_leave_out [] (conditions s) ++ must_stay may_leave_out (conditions s))
merged_itself may_leave_out s = ap₂ canonical (omega arith) (itself_conditions may_leave_out s)

-- Where only conditions with terms may be left out, those that come once more are its withdrawn ones, which have no term.
withdrawn-terms : (tss : List (List Term)) → flatten (must_stay has_terms tss) ≡ []
unfolding flatten
withdrawn-terms [] = refl
withdrawn-terms ([] ∷ tss) = withdrawn-terms tss
withdrawn-terms ((t ∷ ts) ∷ tss) = withdrawn-terms tss

-- So 18 never refuses it for its terms;
pub itself_terms : (s : List ℕ) → Accepted s → length (flatten (merged_conditions has_terms s s)) ≤ most_records
itself_terms s ok =
    let stay = without_repeats has_terms [] (conditions s) in
    let more = must_stay has_terms (conditions s) in
    omega (
      arith,
      ap (λ (tss : List (List Term)). length (flatten tss)) (itself_conditions has_terms s),
      terms-append stay more,
      ap length (withdrawn-terms (conditions s)),
      left-terms has_terms [] (conditions s),
      (accepted-within s ok).records,
    )

-- nor for its conditions, where these and its withdrawn ones once more are few enough.
pub itself_few : (s : List ℕ) → length (merged_conditions has_terms s s) ≤ condition_count s + length (must_stay has_terms (conditions s))
itself_few s =
    omega (
      arith,
      ap length (itself_conditions has_terms s),
      length-append (without_repeats has_terms [] (conditions s)) (must_stay has_terms (conditions s)),
      left-few has_terms [] (conditions s),
      conditions-length s,
    )
