-- What passes is a refutation (theorem 6): whatever the list, and from whichever hand, no assignment that keeps the limit meets the sheet.
use Prim.Native.Nat.{ℕ, suc, ◌-◌, ◌<◌}
use mathlib.Core.Bool.{true, false, not, ◌&&◌, false≢true, and-eq-true_iff}
use mathlib.Core.List.{List, [], ◌∷◌, ◌++◌}
use mathlib.Core.Path.{◌≡◌, refl, sym}
use native.Mathlib.Omega.{arith}
use borrow.Author.Tests.{leb-true, not-false}
use lib.Dec.{eqb, leb}
use lib.ListN.{length}
use Rattle.sheet.specs.Verdicts.{Verdict, Passes, Refuses}
use Rattle.sheet.specs.Format.{lowest_lot, lot_count, condition_count}
use Rattle.sheet.specs.Checks.{Accepted, refuses_if, first_refusal, lot_in_range}
use Rattle.sheet.specs.Conditions.{Term, same, apart, conditions}
use Rattle.sheet.proofs.Verdicts.{or_else-passes, refuses_if-passes, first_refusal-passes, passes-first_refusal}
use Rattle.sheet.proofs.Further.{further_passes}
use Rattle.buffers.specs.Lists.{All}
use Rattle.buffers.proofs.Lists.{all_map, all_nth}
use Rattle.sheet.proofs.Accepted.{sound, lot_in}
use Rattle.sheet.proofs.Conditions.{conditions-length}
use Rattle.equality.specs.Meaning.{MeetsCondition, Meets}
use Rattle.equality.specs.Node.{Decisions, Respects, Value, is_true, is_false, is_open, value}
use Rattle.equality.proofs.Some.{some_none}
use Rattle.equality.specs.Opens.{Small}
use Rattle.equality.proofs.Small.{conditions-small}
use Rattle.equality.proofs.Right.{false_unmet}
use Rattle.limit.specs.Meaning.{Limit, unlimited, up_to, Keeps, check20, limit_checks, Admitted}
use Rattle.limit.specs.Rule.{clique_passes}
use Rattle.limit.proofs.Passes.{passes_sound}
use Rattle.store.specs.Records.{NodeRecord, split_record, ground_record, met_record, clique_record, no_record, records_of}
use Rattle.refutation.specs.Refutation.{most_splits, Split, decisions_of, not_false, ground_fails, nearest_of, nearest, turned, after_ground, named, condition_in_range, walk_clique, walk_record, walk_from, check10, walk_verdict, list_verdict_under, RefutesUnder, Refutes}

pub refuses_passes : {check place : ℕ} → Refuses check place ≡ Passes → ⊥
refuses_passes e = let z : ◌≡◌ {A = ℕ} 0 1 = cc in omega arith

-- ---- what a passing walk excludes

module _ (limit : Limit) {A : Type 0} (decide : (x y : A) → Dec (x ≡ y)) (f : ℕ → A) (s : List ℕ) (ok : Accepted s) (keeps' : Keeps limit (lot_count s) f)
    (meets : Meets f s) where
  -- The assignment does not respect the decisions above a split with the pair set apart, where the split is in its same branch.
  abbrev TurnedOut : Term → List Split → Type 0
  TurnedOut (same a b) above = ¬ Respects f (apart a b ∷ decisions_of above)
  TurnedOut (apart a b) above = Unit {0}

  abbrev Turns : List Split → Type 0
  Turns [] = Unit {0}
  Turns (split ∷ above) = TurnedOut split.decision above × Turns above

  -- It respects neither the path nor any that turns at a split still in its same branch.
  abbrev Excluded : List Split → Type 0
  Excluded above = (¬ Respects f (decisions_of above)) × Turns above

  -- ---- a ground

  ground_excludes : (ds : Decisions) → All Small ds → (c : ℕ) → condition_in_range s c ≡ true → ground_fails ds (named s c) ≡ false → ¬ Respects f ds
  unfolding ground_fails
  ground_excludes ds small c in_range passes respects =
      false_unmet f ds small respects (λ t. not_false (value ds t)) (named s c) passes
      (all_nth (All Small) (conditions s) [] (conditions-small s ok) (c - 1) place)
      (all_map (λ t. is_false_lem (value ds t)) (named s c) (some_none (λ t. not_false (value ds t)) (named s c) passes))
      (all_nth (MeetsCondition f) (conditions s) [] meets (c - 1) place)
    where
      place : c - 1 < length (conditions s)
      place =
          let both = (and-eq-true_iff (leb 1 c) (leb c (condition_count s))).0 in_range in
          omega (arith, leb-true 1 c both.0, leb-true c (condition_count s) both.1, conditions-length s)

      is_false_lem : (v : Value) → not_false v ≡ false → v ≡ is_false
      is_false_lem is_true n = absurd (false≢true (sym n))
      is_false_lem is_false n = refl
      is_false_lem is_open n = absurd (false≢true (sym n))

  -- ---- after a ground

  -- A walk from any record on, below any splits, whose passing excludes.
  abbrev Excludes : (ℕ → List Split → Verdict) → Type 0
  Excludes walk = (at : ℕ) (above : List Split) → All Small (decisions_of above) → walk at above ≡ Passes → Excluded above

  turns : (walk : ℕ → List Split → Verdict) → Excludes walk → (rest : List NodeRecord) (following : ℕ) (above : List Split) → All Small (decisions_of above)
      → after_ground walk rest following (nearest above) ≡ Passes → Turns above
  unfolding nearest
  turns walk excludes rest following [] small e = tt
  turns walk excludes rest following (split ∷ above) small e = go split.decision refl e (turns walk excludes rest following above small.1)
    where
      go : (d : Term) → split.decision ≡ d → after_ground walk rest following (nearest_of split d above (nearest above)) ≡ Passes
          → (after_ground walk rest following (nearest above) ≡ Passes → Turns above) → Turns (split ∷ above)
      go (same a b) q e further =
          let passes = or_else-passes (refuses_if (not (eqb split.next following)) 13 split.number) (walk following (turned split a b ∷ above)) e in
          let pair : Small (same a b) = rw q at small.0 in
          let excluded = excludes following (turned split a b ∷ above) (pair, small.1) passes.1 in
          (rw q excluded.0, excluded.1.1)
      go (apart a b) q e further = (rw q tt, further e)

  -- ---- the walk

  in_range_small : (a b : ℕ) → (lot_in_range lowest_lot (lot_count s) a && lot_in_range lowest_lot (lot_count s) b) ≡ true → Small (same a b)
  in_range_small a b e =
      let (first, second) = (and-eq-true_iff (lot_in_range lowest_lot (lot_count s) a) (lot_in_range lowest_lot (lot_count s) b)).0 e in
      omega (arith, ((lot_in (lot_count s) a).0 first).high, ((lot_in (lot_count s) b).0 second).high, (sound s ok).header.lots)

  record_excludes : (r : NodeRecord) (rest : List NodeRecord) (walk : ℕ → List Split → Verdict) → Excludes walk
      → (at : ℕ) (above : List Split) → All Small (decisions_of above) → walk_record limit lowest_lot s walk rest at above r ≡ Passes → Excluded above
  unfolding Respects
  record_excludes (split_record a b next) rest walk excludes at above small e =
      let below : List Split = record { number = at; next = next; decision = same a b } ∷ above in
      let deep = or_else-passes (refuses_if (leb (most_splits limit) (length above)) 15 at) (walk (suc at) below) in
      let lots = or_else-passes _ _ e in
      let pair = in_range_small a b (not-false _ (refuses_if-passes _ 11 at lots.0)) in
      let excluded = excludes (suc at) below (pair, small) (deep lots.1).1 in
      (either (decide (f a) (f b)) excluded.0 excluded.1.0, excluded.1.1)
    where
      either : Dec (f a ≡ f b) → ¬ Respects f (same a b ∷ decisions_of above) → ¬ Respects f (apart a b ∷ decisions_of above) → ¬ Respects f (decisions_of above)
      either (yes equal) same_out apart_out respects = same_out (equal, respects)
      either (no differ) same_out apart_out respects = apart_out (differ, respects)
  record_excludes (ground_record c) rest walk excludes at above small e =
      let numbered = or_else-passes (refuses_if (not (condition_in_range s c)) 11 at) _ e in
      let passed = or_else-passes (refuses_if (ground_fails (decisions_of above) (named s c)) 12 at) (after_ground walk rest (suc at) (nearest above)) numbered.1 in (
        ground_excludes (decisions_of above) small c (not-false _ (refuses_if-passes (not (condition_in_range s c)) 11 at numbered.0))
            (refuses_if-passes (ground_fails (decisions_of above) (named s c)) 12 at passed.0),
        turns walk excludes rest (suc at) above small passed.1,
      )
  record_excludes clique_record rest walk excludes at above small e = passed limit keeps' e
    where
      passed : (l : Limit) → Keeps l (lot_count s) f → walk_clique l (lot_count s) walk rest at above ≡ Passes → Excluded above
      passed unlimited keeps' e = absurd (refuses_passes e)
      passed (up_to g) keeps' e =
          let here = or_else-passes (refuses_if (not (clique_passes g (lot_count s) (decisions_of above))) 12 at) (after_ground walk rest (suc at) (nearest above)) e in
          let clique' = not-false _ (refuses_if-passes (not (clique_passes g (lot_count s) (decisions_of above))) 12 at here.0) in (
            (λ respects. passes_sound (decisions_of above) g (lot_count s) clique' f small respects keeps'),
            turns walk excludes rest (suc at) above small here.1,
          )
  record_excludes met_record rest walk excludes at above small e = absurd (refuses_passes e)
  record_excludes no_record rest walk excludes at above small e = absurd (refuses_passes e)

  walk_excludes : (list : List NodeRecord) → Excludes (walk_from limit lowest_lot s list)
  unfolding walk_from
  walk_excludes [] at above small e = absurd (refuses_passes e)
  walk_excludes (r ∷ rest) at above small e = record_excludes r rest (walk_from limit lowest_lot s rest) (walk_excludes rest) at above small e

  no_meeting : (list : List ℕ) → walk_verdict limit lowest_lot s list ≡ Passes → ⊥
  unfolding walk_verdict Respects
  no_meeting list e = (walk_excludes (records_of list) 1 [] tt e).0 tt

-- What a list that passes has passed: the sheet is accepted, the limit is admitted, and so is each record.
pub record PassedAll (limit : Limit) (s list : List ℕ) : Type 0 where
  pub accepted : Accepted s
  pub admitted : Admitted limit
  pub long : check10 list ≡ Passes
  pub walked : walk_verdict limit lowest_lot s list ≡ Passes

pub passed_all : (limit : Limit) (s list : List ℕ) → RefutesUnder limit s list → PassedAll limit s list
unfolding list_verdict_under
passed_all limit s list passes =
    let sheet = further_passes s (limit_checks limit ++ check10 list ∷ walk_verdict limit lowest_lot s list ∷ []) passes in
    let both = split_list limit sheet.1 in
    let long = first_refusal-passes (check10 list) (walk_verdict limit lowest_lot s list ∷ []) both.1 in
    record {
      accepted = sheet.0;
      admitted = both.0;
      long = long.0;
      walked = (first_refusal-passes (walk_verdict limit lowest_lot s list) [] long.1).0;
    }
  where
    rest : List Verdict
    rest = check10 list ∷ walk_verdict limit lowest_lot s list ∷ []

    split_list : (l : Limit) → first_refusal (limit_checks l ++ rest) ≡ Passes → Admitted l × (first_refusal rest ≡ Passes)
    split_list unlimited e = (unfold first_refusal in refl, e)
    split_list (up_to g) e =
        let both = first_refusal-passes (check20 g) rest e in
        (passes-first_refusal (check20 g) [] both.0 (unfold first_refusal in refl), both.1)

-- Theorem 6, with a limit or without one,
pub refutation_sound_under : (limit : Limit) (s list : List ℕ) → RefutesUnder limit s list → {A : Type 0} → ((x y : A) → Dec (x ≡ y)) → (f : ℕ → A)
    → Keeps limit (lot_count s) f → ¬ Meets f s
refutation_sound_under limit s list passes decide f keeps' meets =
    let all = passed_all limit s list passes in no_meeting limit decide f s all.accepted keeps' meets list all.walked

-- and without one.
pub refutation_sound : (s list : List ℕ) → Refutes s list → {A : Type 0} → ((x y : A) → Dec (x ≡ y)) → (f : ℕ → A) → ¬ Meets f s
refutation_sound s list passes decide f meets = refutation_sound_under unlimited s list passes decide f tt meets
