-- The loops over the terms of the taken condition, by a table or by the pairs: a closed term is passed, the first open one is split on, and where none is left
-- the node is a ground.
use Prim.Native.Nat.{ℕ, ◌≤◌}
use mathlib.Core.Bool.{Bool, true, false, not}
use mathlib.Core.List.{List, ◌∷◌}
use mathlib.Core.Logic.{◌≢◌}
use mathlib.Core.Path.{◌≡◌, sym, ap, subst, ◌∙◌}
use Rattle.sheet.specs.declared.Term as code
use Rattle.sheet.specs.Conditions.{same, apart, term_of, term_at, conditions}
use Rattle.sheet.specs.Inner.{HasConditions, term_record_at}
use Rattle.equality.specs.Node.{Decisions, share, marked_apart, ground, split, node}
use Rattle.equality.proofs.Passing.{Passing}
use Rattle.equality.proofs.Walking.{term_here, next_here}
use Rattle.scan.specs.Place.{PassesTo, ResumesWithin}
use Rattle.node.proofs.Opening.{open_by, sign_same, sign_apart, passed-resumes, none_open, open_here, open_leaves}
use Rattle.node.proofs.Resuming.{rest_decides, rest_passes, later_resumes, apart-resumes}

-- A "same" term that is marked, and an "apart" term, are closed.
pub closed_same : (marks : ℕ → ℕ → Bool) (sign a b : ℕ) → sign ≡ 1 → marks a b ≡ true → open_by marks (term_of sign a b) ≡ false
closed_same marks sign a b e marked = ap (open_by marks) (sign_same sign a b e) ∙ ap not marked

pub closed_apart : (marks : ℕ → ℕ → Bool) (sign a b : ℕ) → sign ≢ 1 → open_by marks (term_of sign a b) ≡ false
closed_apart marks sign a b n = ap (open_by marks) (sign_apart sign a b n)

-- For decisions that have these marks between classes, and whose node takes the condition.
module _ {marks : ℕ → ℕ → Bool} {s : List ℕ} {m from at : ℕ} (can : HasConditions s m) (l : Passing (open_by marks) s from at)
    {ds : Decisions} (says : (a b : ℕ) → share ds a b ≡ false → marks a b ≡ marked_apart ds a b) {c : ℕ} (w : ResumesWithin s c from ds) where
  module _ (low : 1 ≤ at) {t : code.Term} (read : t ≡ term_record_at s at) (sign : t.sign ≡ 1) where
    here : term_at s at ≡ same t.a.0 t.b.0
    here = term_here can low l read ∙ sign_same _ _ _ sign

    pub splits_here : marks t.a.0 t.b.0 ≡ false → split t.a.0 t.b.0 ≡ node ds (conditions s)
    splits_here unmarked =
        open_here marks s can.accepted from at l ds says (rest_passes s c from ds w) t.a.0 t.b.0 low here unmarked c ∙ sym (rest_decides s c from ds w)

    pub leaves_here : ResumesWithin s c t.next.0 (apart t.a.0 t.b.0 ∷ ds)
    leaves_here =
        apart-resumes s c from ds w t.a.0 t.b.0 t.next.0
        (subst (λ (r : ℕ). PassesTo s from r (apart t.a.0 t.b.0 ∷ ds)) (next_here can low l read)
        (open_leaves marks s can.accepted from at l ds says (rest_passes s c from ds w) t.a.0 t.b.0 low here))

  pub none_left : at ≡ 0 → ground c ≡ node ds (conditions s)
  none_left end = none_open marks s can.accepted from at l ds says (rest_passes s c from ds w) end c ∙ sym (rest_decides s c from ds w)

  pub goes_on : ResumesWithin s c at ds
  goes_on = later_resumes s c from ds w at (passed-resumes marks s can.accepted from at l ds says (rest_passes s c from ds w))
