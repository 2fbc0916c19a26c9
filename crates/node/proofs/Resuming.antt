-- Going on within the taken condition: what the terms from a record on decide, and where the apart branch of a split goes on.
use Prim.Native.Nat.{ℕ}
use mathlib.Core.List.{List, ◌∷◌, ◌++◌, append_assoc}
use mathlib.Core.Path.{◌≡◌, sym, ap, ◌∙◌}
use Rattle.sheet.specs.Format.{head_at}
use Rattle.sheet.specs.Conditions.{Term, apart, terms_from, condition_at, conditions}
use Rattle.equality.specs.Node.{Decisions, no_condition, taken, met, ground_or_split, node_of, node}
use Rattle.equality.proofs.Node.{taken-apart, passed_by}
use Rattle.equality.proofs.Rule.{taken_at, no_open}
use Rattle.scan.specs.Place.{PassesTo, ResumesWithin}
use Rattle.buffers.proofs.Lists.{all_both}
use Rattle.node.proofs.Opening.{NonePasses, rest_passes_none, NoneOpen, none-ground, none_later}

-- ---- after the scan

-- Where no condition is taken the node is met.
pub none-met : (ds : Decisions) (s : List ℕ) → taken ds 1 (conditions s) ≡ no_condition → met ≡ node ds (conditions s)
unfolding node
none-met ds s e = rw e

-- ---- from a record on

-- None of the terms passed is open.
passed_none : (ds : Decisions) (s : List ℕ) (from r : ℕ) (p : PassesTo s from r ds) → NoneOpen ds p.passed
passed_none ds s from r p = (no_open ds 0 p.passed 0 (p.closed 0)).1

module _ (s : List ℕ) (c from : ℕ) (ds : Decisions) (w : ResumesWithin s c from ds) where
  -- The terms from the record on decide what the node is,
  pub rest_decides : node ds (conditions s) ≡ ground_or_split ds c (terms_from s from)
  unfolding node
  rest_decides =
      ap (node_of met ds) w.condition
      ∙ ap (ground_or_split ds c) w.passes.place
      ∙ passed_by ds c w.passes.passed (terms_from s from) (passed_none ds s (head_at s c) from w.passes)

  -- and none of them is true or an open "apart" term.
  pub rest_passes : NonePasses ds (terms_from s from)
  rest_passes =
      rest_passes_none ds w.passes.passed (terms_from s from)
      (rw w.passes.place at (taken_at ds 1 (conditions s) c (condition_at s c) w.condition).unmet)

  -- Terms that are passed after the record come after those before it.
  passes_through : (es : Decisions) (r : ℕ) → NoneOpen es w.passes.passed → PassesTo s from r es → PassesTo s (head_at s c) r es
  passes_through es r none p =
      record {
        on = p.on;
        passed = w.passes.passed ++ p.passed;
        place =
            w.passes.place
            ∙ ap (λ (ts : List Term). w.passes.passed ++ ts) p.place
            ∙ sym (append_assoc w.passes.passed p.passed (terms_from s r));
        closed = none-ground es (w.passes.passed ++ p.passed) (all_both _ w.passes.passed p.passed none (passed_none es s from r p));
      }

  -- The node goes on from a later record,
  pub later_resumes : (r : ℕ) → PassesTo s from r ds → ResumesWithin s c r ds
  later_resumes r p = record { condition = w.condition; passes = passes_through ds r (passed_none ds s (head_at s c) from w.passes) p }

  -- and once a pair is set apart the same condition is taken, and its terms up to the record are not open still.
  pub apart-resumes : (a b r : ℕ) → PassesTo s from r (apart a b ∷ ds) → ResumesWithin s c r (apart a b ∷ ds)
  apart-resumes a b r p =
      record {
        condition = taken-apart ds a b 1 (conditions s) ∙ w.condition;
        passes = passes_through (apart a b ∷ ds) r (none_later ds a b w.passes.passed (passed_none ds s (head_at s c) from w.passes)) p;
      }
