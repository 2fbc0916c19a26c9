-- The test by classes and marks is the node rule's: a term is not false by them exactly where it is not false under the path. The marks may be any test that says
-- what the definition of marks says of two classes that are not one.
use Prim.Native.Nat.{ℕ, suc, ◌-◌, ◌≤◌}
use mathlib.Core.Bool.{Bool, true, false, cond, not, ◌||◌}
use mathlib.Core.List.{List}
use mathlib.Core.Logic.{◌≢◌}
use mathlib.Core.Path.{◌≡◌, refl, ap, ◌∙◌}
use native.Mathlib.Omega.{arith}
use borrow.Author.Tests.{eqb-false}
use lib.Dec.{eqb}
use Rattle.sheet.specs.Format.{most_lots, same_sign, lot_count, condition_count, head_at}
use Rattle.sheet.specs.Inner.{OnChain}
use Rattle.sheet.specs.Checks.{Accepted}
use Rattle.sheet.specs.Conditions.{Term, same, apart, term_of, InLots, TermIn, terms_from, condition_at}
use Rattle.buffers.proofs.Lists.{all_map}
use Rattle.sheet.proofs.Accepted.{sound}
use Rattle.sheet.proofs.Conditions.{conditions_at, terms_in}
use Rattle.equality.specs.Meaning.{any_term}
use Rattle.equality.specs.Node.{Decisions, class_of, classes, share, marked, marked_apart, is_true, is_false, is_open, value}
use Rattle.equality.proofs.Some.{any_agree}
use Rattle.equality.proofs.Withdrawn.{chain_some}
use Rattle.refutation.specs.Refutation.{not_false, ground_fails, named}
use Rattle.classes.proofs.Maps.{classes-within}
use Rattle.leaves.specs.Terms.{allows_classes, allows}

-- The test on a term, by its sign.
pub allows_term : (cs : List ℕ) (marks : ℕ → ℕ → Bool) (sign a b : ℕ)
    → allows cs marks (term_of sign a b) ≡ allows_classes marks (eqb sign same_sign) (class_of cs a) (class_of cs b)
allows_term cs marks sign a b = go (eqb sign same_sign)
  where
    go : (p : Bool) → allows cs marks (cond p (same a b) (apart a b)) ≡ allows_classes marks p (class_of cs a) (class_of cs b)
    go true = refl
    go false = refl

-- A term is not false under a path.
abbrev pub stands : Decisions → Term → Bool
stands ds t = not_false (value ds t)

module _ (ds : Decisions) (s : List ℕ) (ok : Accepted s) where
  -- The class of a lot that a term names is one that the marks speak of.
  class_within : (lot : ℕ) → InLots (lot_count s) lot → class_of (classes ds) lot ≤ most_lots
  class_within lot h = classes-within ds lot (omega (arith, h.high, (sound s ok).header.lots))

  module _ (marks : ℕ → ℕ → Bool) (says : (x y : ℕ) → x ≤ most_lots → y ≤ most_lots → x ≢ y → marks x y ≡ marked (classes ds) ds x y) where
    term_agrees : (t : Term) → TermIn (lot_count s) t → allows (classes ds) marks t ≡ stands ds t
    unfolding value
    term_agrees (same a b) h = go (share ds a b) refl
      where
        unshared : (q : Bool) → not q ≡ not_false (cond q is_false is_open)
        unshared true = refl
        unshared false = refl

        go : (p : Bool) → share ds a b ≡ p
            → (p || not (marks (class_of (classes ds) a) (class_of (classes ds) b))) ≡ not_false (cond p is_true (cond (marked_apart ds a b) is_false is_open))
        go true e = refl
        go false e = ap not (says _ _ (class_within a h.0) (class_within b h.1) (eqb-false _ _ e)) ∙ unshared (marked_apart ds a b)
    term_agrees (apart a b) h = go (share ds a b) (marked_apart ds a b)
      where
        go : (p q : Bool) → not p ≡ not_false (cond p is_false (cond q is_true is_open))
        go true q = refl
        go false true = refl
        go false false = refl

    -- The terms of a chain, from any record on.
    pub terms_agree : (r : ℕ) → OnChain s r → any_term (allows (classes ds) marks) (terms_from s r) ≡ any_term (stands ds) (terms_from s r)
    terms_agree r h = any_agree (allows (classes ds) marks) (stands ds) (terms_from s r) (all_map term_agrees (terms_from s r) (terms_in s ok r h))

  -- Those of a whole chain decide a ground, and a withdrawn condition is none. Here alone the terms of a chain are taken for a condition.
  pub ground-terms : (c : ℕ) → 1 ≤ c → c ≤ condition_count s
      → ground_fails ds (named s c) ≡ (eqb (head_at s c) 0 || any_term (stands ds) (terms_from s (head_at s c)))
  unfolding ground_fails
  ground-terms c low high =
      let number : suc (c - 1) ≡ c = omega arith in
      let chain : named s c ≡ terms_from s (head_at s c) = conditions_at s (c - 1) (omega arith) ∙ ap (condition_at s) number in
      rw chain (chain_some (stands ds) s ok (head_at s c) ((sound s ok).heads c low high))
