-- The walk's loop: the verdict on the list is that of the walk over the records that are left.
use Prim.Native.Nat.{ℕ, suc, ◌+◌, ◌-◌, ◌/◌, ◌≤◌, ◌<◌}
use mathlib.Core.Bool.{Bool, true, false}
use mathlib.Core.List.{List, [], ◌∷◌}
use mathlib.Core.Path.{◌≡◌, refl, sym, ap, ◌∙◌}
use native.Mathlib.Omega.{arith}
use borrow.Author.Tests.{eqb-true, eqb-false}
use lib.Dec.{eqb}
use lib.ListN.{length, get_or, drop, drop_of_length-le}
use lib.Seq.{drop-cons}
use Rattle.sheet.specs.Format.{lowest_lot}
use Rattle.sheet.specs.Verdicts.{Refuses}
use Rattle.sheet.proofs.Ranges.{length_along, get_or_along}
use Rattle.limit.specs.Meaning.{Limit}
use Rattle.store.specs.Records.{NodeRecord, no_record, record_length, record_at, records_of}
use Rattle.refutation.specs.Refutation.{walk_record, walk_from, walk_verdict}
use Rattle.path.specs.Paths.{path_of}
use Rattle.std.specs.Prelude.{Option, Result}
use Rattle.sheet.specs.declared.refusal.Refusal.{Refusal}
use Rattle.steps.specs.Steps.{Rest, WalkRest, step_as, none_left}

module _ (list : List ℕ) where
  records-length : length (records_of list) ≡ length list / record_length
  unfolding records_of
  records-length = length_along (record_at list) (length list / record_length) 1

  record_at_lem : (i : ℕ) → i < length list / record_length → get_or (records_of list) i no_record ≡ record_at list (1 + i)
  unfolding records_of
  record_at_lem i h = get_or_along (record_at list) (length list / record_length) 1 i no_record h

  -- Record r is the first of those that are left,
  pub records_step : (r : ℕ) → 1 ≤ r → r ≤ length list / record_length → drop (r - 1) (records_of list) ≡ record_at list r ∷ drop r (records_of list)
  records_step r low high =
      let after : suc (r - 1) ≡ r = omega arith in
      let number : 1 + (r - 1) ≡ r = omega arith in
      drop-cons (records_of list) (r - 1) no_record (omega (arith, records-length))
      ∙ (λ i. (record_at_lem (r - 1) (omega arith) ∙ ap (record_at list) number) i ∷ drop (after i) (records_of list))

  -- past the last none is,
  records_end : (r : ℕ) → length list / record_length ≤ r → drop r (records_of list) ≡ []
  records_end r h = drop_of_length-le (records_of list) {i = r} (omega (arith, records-length))

  -- and whether one is left after record r is whether r is the last.
  pub last_left : (r : ℕ) → r ≤ length list / record_length → eqb r (length list / record_length) ≡ none_left (drop r (records_of list))
  last_left r h = go (eqb r (length list / record_length)) refl
    where
      go : (b : Bool) → eqb r (length list / record_length) ≡ b → b ≡ none_left (drop r (records_of list))
      go true e = sym (ap none_left (records_end r (omega (arith, eqb-true r (length list / record_length) e))))
      go false e = sym (ap none_left (drop-cons (records_of list) r no_record (omega (arith, records-length, eqb-false r (length list / record_length) e))))

-- ---- the loop

module _ (limit : Limit) (s list : List ℕ) where
  -- At record r, below the splits of the path.
  abbrev pub Walking : List ℕ → ℕ → ℕ → Type 0
  Walking path depth r = walk_verdict limit lowest_lot s list ≡ walk_from limit lowest_lot s (drop (r - 1) (records_of list)) r (path_of path depth)

  pub walking_start : (path : List ℕ) → Walking path 0 1
  unfolding walk_verdict path_of
  walking_start path = refl

  -- What a step at record r comes to is what the walk does,
  pub walking_step : (path path' : List ℕ) (depth r : ℕ) → Walking path depth r → 1 ≤ r → r ≤ length list / record_length → (v : Result (Option ℕ) Refusal)
      → ((walk_rest : WalkRest) (rest : Rest) → eqb r (length list / record_length) ≡ none_left rest
      → walk_record limit lowest_lot s walk_rest rest r (path_of path depth) (record_at list r) ≡ step_as walk_rest (r + 1) path' v)
      → walk_verdict limit lowest_lot s list ≡ step_as (walk_from limit lowest_lot s (drop r (records_of list))) (r + 1) path' v
  unfolding walk_from
  walking_step path path' depth r walking low high v told =
      walking
      ∙ ap (λ (rs : List NodeRecord). walk_from limit lowest_lot s rs r (path_of path depth)) (records_step list r low high)
      ∙ told (walk_from limit lowest_lot s (drop r (records_of list))) (drop r (records_of list)) (last_left list r high)

  -- where it goes on, at the following record;
  pub walking_on : (path : List ℕ) (depth r : ℕ)
      → walk_verdict limit lowest_lot s list ≡ walk_from limit lowest_lot s (drop r (records_of list)) (r + 1) (path_of path depth) → Walking path depth (r + 1)
  walking_on path depth r e =
      let at : r + 1 - 1 ≡ r = omega arith in
      e ∙ ap (λ (k : ℕ). walk_from limit lowest_lot s (drop k (records_of list)) (r + 1) (path_of path depth)) (sym at)

  -- and past the last record one is missing.
  pub walking_end : (path : List ℕ) (depth r : ℕ) → Walking path depth r → length list / record_length < r → walk_verdict limit lowest_lot s list ≡ Refuses 14 r
  unfolding walk_from
  walking_end path depth r walking h =
      walking ∙ ap (λ (rs : List NodeRecord). walk_from limit lowest_lot s rs r (path_of path depth)) (records_end list (r - 1) (omega arith))
