-- `repeats::kept::left_out`: a condition with no term is not; one with terms is where it repeats one of either sheet.
use Prim.Native.Nat.{ℕ, ◌≤◌}
use mathlib.Core.Bool.{Bool, true, false, ◌||◌}
use mathlib.Core.List.{List, ◌++◌}
use mathlib.Core.Path.{◌≡◌, sym, ap, ◌∙◌}
use native.Mathlib.Omega.{arith}
use Rattle.sheet.specs.Checks.{Accepted}
use Rattle.sheet.specs.Conditions.{Term, terms_from}
use Rattle.sheet.specs.Inner.{OnChain}
use Rattle.sheet.proofs.ChainEnds.{terms_end, terms_step}
use Rattle.repeats.specs.Repeats.{repeats}
use Rattle.repeats.specs.Inner.{is_left_out}
use Rattle.repeats.proofs.Equal.{repeats-append}
use Rattle.repeats.proofs.kept.left_out.Goals as goal

-- A chain from zero on has no term,
no_term_stays : (s : List ℕ) (head : ℕ) (earlier : List (List Term)) → head ≡ 0 → is_left_out (terms_from s head) earlier ≡ false
no_term_stays s head earlier e = rw (e, terms_end s)

-- and one from a record on has one, so that it is left out where it repeats one of two lists: of the first it does, or does not, as `b` has it.
by_repeats : (s : List ℕ) (head : ℕ) (first second : List (List Term)) (b : Bool) → Accepted s → OnChain s head → 1 ≤ head → repeats (terms_from s head) first ≡ b
    → is_left_out (terms_from s head) (first ++ second) ≡ (b || repeats (terms_from s head) second)
by_repeats s head first second b ok on low e =
    let either : is_left_out (terms_from s head) (first ++ second) ≡ (repeats (terms_from s head) first || repeats (terms_from s head) second) =
    rw (terms_step s ok head low on.within) (repeats-append _ first second) in
    either ∙ ap (λ (p : Bool). p || repeats (terms_from s head) second) e

pub returns-then-condition-eq0 : goal.returns-then-condition-eq0
returns-then-condition-eq0 c =
    sym (no_term_stays _ _ _ c.if-condition-eq0.true)

pub returns-then-repeats_between : goal.returns-then-repeats_between
returns-then-repeats_between c =
    sym (by_repeats _ _ _ _ true c.requires.1.accepted c.requires.2.on (omega (arith, c.if-condition-eq0.false)) (sym c.repeats_between.ensures ∙ c.if-repeats_between.true))

pub returns : goal.returns
returns c =
    c.repeats_between-2.ensures
    ∙ sym (by_repeats _ _ _ _ false c.requires.1.accepted c.requires.2.on (omega (arith, c.if-condition-eq0.false)) (sym c.repeats_between.ensures ∙ c.if-repeats_between.false))
