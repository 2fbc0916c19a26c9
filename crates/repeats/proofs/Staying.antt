-- Conditions that are looked at one after the other, behind earlier ones: those found to stay, and what stays of those that are left, come to what stays of
-- all.
use mathlib.Core.Bool.{Bool, true, false, ◌&&◌}
use mathlib.Core.List.{List, [], ◌∷◌, ◌++◌, append-nil, append_assoc}
use mathlib.Core.Path.{◌≡◌, sym, ap, subst, ◌∙◌}
use lib.Seq.{append_snoc}
use Rattle.sheet.specs.Conditions.{Term}
use Rattle.repeats.specs.Repeats.{repeats, without_repeats}
use Rattle.equality.proofs.Tests.{and_true_both}
use Rattle.repeats.proofs.Left.{SameOnes, known_same, moved_same, left-same}

-- A condition before others is one behind them.
last_same : (ts : List Term) (earlier : List (List Term)) → SameOnes (ts ∷ earlier) (earlier ++ ts ∷ [])
last_same ts earlier = subst (λ (front : List (List Term)). SameOnes (ts ∷ front) (earlier ++ ts ∷ [])) (append-nil earlier) (moved_same ts earlier [])

module _ (may_leave_out : List Term → Bool) (earlier all : List (List Term)) where
  -- Of all, `found` were found to stay, and `rest` are left.
  pub record Staying (found rest : List (List Term)) : Type 0 where
    pub whole : found ++ without_repeats may_leave_out (earlier ++ found) rest ≡ without_repeats may_leave_out earlier all

  pub staying_start : Staying [] all
  staying_start = record { whole = rw (append-nil earlier) }

  module _ {found : List (List Term)} where
    module _ {ts : List Term} {rest : List (List Term)} (l : Staying found (ts ∷ rest)) where
      -- The next one is left out,
      pub staying_past : (may_leave_out ts && repeats ts (earlier ++ found)) ≡ true → Staying found rest
      unfolding without_repeats
      staying_past e =
          let known = known_same ts (earlier ++ found) (and_true_both (may_leave_out ts) _ e).1 in
          record { whole = ap (λ (stay : List (List Term)). found ++ stay) (sym (left-same may_leave_out (ts ∷ earlier ++ found) (earlier ++ found) rest known)) ∙ rw e at l.whole }

      -- or it stays.
      pub staying_next : (may_leave_out ts && repeats ts (earlier ++ found)) ≡ false → Staying (found ++ ts ∷ []) rest
      unfolding without_repeats
      staying_next e =
          let after = earlier ++ (found ++ ts ∷ []) in
          let same : SameOnes (ts ∷ earlier ++ found) after =
          λ us. last_same ts (earlier ++ found) us ∙ ap (repeats us) (append_assoc earlier found (ts ∷ [])) in
          record {
            whole =
                append_snoc found ts (without_repeats may_leave_out after rest)
                ∙ ap (λ (stay : List (List Term)). found ++ ts ∷ stay) (sym (left-same may_leave_out (ts ∷ earlier ++ found) after rest same))
                ∙ rw e at l.whole;
          }

    -- None is left.
    pub staying_end : Staying found [] → found ≡ without_repeats may_leave_out earlier all
    unfolding without_repeats
    staying_end l = sym (append-nil found) ∙ l.whole
