-- A list that passes under a limit passes under every smaller one that 20 admits, and a list that passes without a limit passes under every one that it admits.
use Prim.Native.Nat.{ℕ, suc, ◌<◌}
use mathlib.Core.Bool.{not, ◌&&◌}
use mathlib.Core.List.{List, [], ◌∷◌, ◌++◌}
use mathlib.Core.Path.{◌≡◌, refl, ◌∙◌}
use native.Mathlib.Omega.{arith}
use borrow.Author.Tests.{leb-false, lt-leb, not-false}
use lib.Dec.{eqb, leb}
use lib.ListN.{length}
use Rattle.sheet.specs.Verdicts.{Verdict, Passes}
use Rattle.sheet.specs.Format.{lowest_lot, lot_count}
use Rattle.sheet.specs.Checks.{refuses_if, first_refusal, lot_in_range}
use Rattle.sheet.specs.Conditions.{same}
use Rattle.sheet.proofs.Verdicts.{passed_on, or_else-passes, passes-or_else, refuses_if-passes, first_refusal-passes, passes-first_refusal}
use Rattle.sheet.proofs.Further.{further_accepted}
use Rattle.limit.specs.Meaning.{Limit, unlimited, up_to, check20, limit_checks, Admitted}
use Rattle.limit.specs.Rule.{clique_passes}
use Rattle.limit.proofs.Passes.{passes_smaller}
use Rattle.limit.proofs.Slack.{Looser}
use Rattle.store.specs.Records.{NodeRecord, split_record, ground_record, met_record, clique_record, no_record, records_of}
use Rattle.refutation.specs.Refutation.{most_splits, Split, decisions_of, ground_fails, Nearest, no_split, same_split, nearest, turned, after_ground, named, condition_in_range, walk_clique, walk_record, walk_from, check10, walk_verdict, list_verdict_under, RefutesUnder}
use Rattle.refutation.proofs.Sound.{refuses_passes, passed_all}

module _ (looser limit : Limit) (h : Looser looser limit) (s : List ℕ) where
  -- A walk whose passing makes another pass.
  abbrev Carries : (ℕ → List Split → Verdict) → (ℕ → List Split → Verdict) → Type 0
  Carries walk other = (at : ℕ) (above : List Split) → walk at above ≡ Passes → other at above ≡ Passes

  after_carries : (walk other : ℕ → List Split → Verdict) → Carries walk other → (rest : List NodeRecord) (following : ℕ) (near : Nearest)
      → after_ground walk rest following near ≡ Passes → after_ground other rest following near ≡ Passes
  after_carries walk other carries rest following no_split e = e
  after_carries walk other carries rest following (same_split split a b above) e =
      let both = or_else-passes (refuses_if (not (eqb split.next following)) 13 split.number) (walk following (turned split a b ∷ above)) e in
      passes-or_else _ _ both.0 (carries following (turned split a b ∷ above) both.1)

  -- More splits may stand above a record, not fewer.
  deep_carries : (above : List Split) (at : ℕ) → refuses_if (leb (most_splits looser) (length above)) 15 at ≡ Passes
      → refuses_if (leb (most_splits limit) (length above)) 15 at ≡ Passes
  deep_carries above at e =
      let few = leb-false (most_splits looser) (length above) (refuses_if-passes _ 15 at e) in
      rw (lt-leb (most_splits limit) (length above) (more looser limit h few))
    where
      more : (l k : Limit) → Looser l k → length above < most_splits l → length above < most_splits k
      more unlimited unlimited h few = few
      more unlimited (up_to g) h few = omega arith
      more (up_to g') unlimited h few = absurd h
      more (up_to g') (up_to g) h few = few

  clique_carries : (walk other : ℕ → List Split → Verdict) → Carries walk other → (rest : List NodeRecord) (at : ℕ) (above : List Split)
      → (l k : Limit) → Looser l k → walk_clique l (lot_count s) walk rest at above ≡ Passes → walk_clique k (lot_count s) other rest at above ≡ Passes
  clique_carries walk other carries rest at above unlimited k h e = absurd (refuses_passes e)
  clique_carries walk other carries rest at above (up_to g') unlimited h e = absurd h
  clique_carries walk other carries rest at above (up_to g') (up_to g) h e =
      let both = or_else-passes (refuses_if (not (clique_passes g' (lot_count s) (decisions_of above))) 12 at) (after_ground walk rest (suc at) (nearest above)) e in
      let passes = not-false _ (refuses_if-passes (not (clique_passes g' (lot_count s) (decisions_of above))) 12 at both.0) in
      rw (passes_smaller (decisions_of above) g' g (lot_count s) h passes) (after_carries walk other carries rest (suc at) (nearest above) both.1)

  record_carries : (walk other : ℕ → List Split → Verdict) → Carries walk other → (rest : List NodeRecord) (at : ℕ) (above : List Split) (r : NodeRecord)
      → walk_record looser lowest_lot s walk rest at above r ≡ Passes → walk_record limit lowest_lot s other rest at above r ≡ Passes
  record_carries walk other carries rest at above (split_record a b next) e =
      let below : List Split = record { number = at; next = next; decision = same a b } ∷ above in
      let lots = or_else-passes (refuses_if (not (lot_in_range lowest_lot (lot_count s) a && lot_in_range lowest_lot (lot_count s) b)) 11 at) _ e in
      let deep = or_else-passes (refuses_if (leb (most_splits looser) (length above)) 15 at) (walk (suc at) below) lots.1 in
      passes-or_else _ _ lots.0 (passes-or_else _ _ (deep_carries above at deep.0) (carries (suc at) below deep.1))
  record_carries walk other carries rest at above (ground_record c) e =
      let numbered = or_else-passes (refuses_if (not (condition_in_range s c)) 11 at) _ e in
      let passed = or_else-passes (refuses_if (ground_fails (decisions_of above) (named s c)) 12 at) (after_ground walk rest (suc at) (nearest above)) numbered.1 in
      passes-or_else _ _ numbered.0 (passes-or_else _ _ passed.0 (after_carries walk other carries rest (suc at) (nearest above) passed.1))
  record_carries walk other carries rest at above met_record e = absurd (refuses_passes e)
  record_carries walk other carries rest at above clique_record e = clique_carries walk other carries rest at above looser limit h e
  record_carries walk other carries rest at above no_record e = absurd (refuses_passes e)

  walk_carries : (list : List NodeRecord) → Carries (walk_from looser lowest_lot s list) (walk_from limit lowest_lot s list)
  unfolding walk_from
  walk_carries [] at above e = absurd (refuses_passes e)
  walk_carries (r ∷ rest) at above e =
      record_carries (walk_from looser lowest_lot s rest) (walk_from limit lowest_lot s rest) (walk_carries rest) rest at above r e

-- A limit that is admitted leaves what is checked after it.
pub admitted_first : (limit : Limit) → Admitted limit → (rest : List Verdict)
    → first_refusal (limit_checks limit ++ rest) ≡ first_refusal rest
unfolding first_refusal
admitted_first unlimited e rest = refl
admitted_first (up_to g) e rest = passed_on (first_refusal-passes (check20 g) [] e).0

-- Under a smaller limit, or one where there was none, the list still refutes the sheet, if 20 admits it.
pub smaller_refutes : (looser limit : Limit) → Looser looser limit → (s list : List ℕ) → Admitted limit
    → RefutesUnder looser s list → RefutesUnder limit s list
unfolding list_verdict_under walk_verdict
smaller_refutes looser limit h s list admitted passes =
    let all = passed_all looser s list passes in
    let walked = walk_carries looser limit h s (records_of list) 1 [] (unfold walk_verdict in all.walked) in
    further_accepted s _ all.accepted
    ∙ admitted_first limit admitted (check10 list ∷ walk_from limit lowest_lot s (records_of list) 1 [] ∷ [])
    ∙ passes-first_refusal (check10 list) _ all.long (passes-first_refusal _ [] walked (unfold first_refusal in refl))
