-- Withdrawn conditions, which have no term. Three rules ask whether some term of a condition is such and such; "A zero head therefore means struck: every
-- numbering meets it, the search passes it over, and a ground naming it is refused by 12" (document 02) is a law for each: `no_term_met`, `no_term_passed`,
-- and `no_term_ground` in the crate `refutation`; and of a sheet's condition by its head `withdrawn-met`, `withdrawn_untaken`, and there `withdrawn-refused`.
use Prim.Native.Nat.{ℕ, zero, suc, ◌+◌, ◌*◌, ◌≤◌}
use mathlib.Core.Bool.{Bool, true, ◌||◌, false≢true}
use mathlib.Core.List.{List, [], ◌∷◌, ◌++◌}
use mathlib.Core.Logic.{◌≢◌}
use mathlib.Core.Path.{◌≡◌, sym, ap, subst, ◌∙◌}
use native.Mathlib.Omega.{arith}
use lib.Dec.{eqb}
use lib.ListN.{length, get_or, length-append}
use lib.Seq.{get_or-append_seam}
use borrow.Author.Tests.{ne_eqb}
use Rattle.sheet.specs.Format.{record_count, head_at}
use Rattle.sheet.specs.Checks.{Accepted}
use Rattle.sheet.specs.Conditions.{Term, terms_from, condition_at, conditions}
use Rattle.sheet.proofs.ChainEnds.{terms_end, terms_step}
use Rattle.sheet.proofs.Conditions.{conditions-length, conditions_at, withdrawn-empty}
use Rattle.equality.specs.Meaning.{any_term, SomeTerm, some_term, MeetsCondition, meets_condition}
use Rattle.equality.specs.Node.{Decisions, takes, passed_over, taken, ground, node}
use Rattle.equality.specs.Search.{same_terms, branching}
use Rattle.equality.proofs.Some.{some_any, some_no_term}
use Rattle.equality.proofs.Rule.{TakenAt, taken_at, ground_at}

-- ---- the rules, of a condition with no term

-- "every numbering meets it", with values of any type;
pub no_term_met : {A : Type 0} (f : ℕ → A) → MeetsCondition f []
unfolding SomeTerm
no_term_met f = tt

pub no_term_meets : (f : ℕ → ℕ) → meets_condition f [] ≡ true
no_term_meets f = some_no_term _

-- "the search passes it over", under all decisions;
pub no_term_passed : (ds : Decisions) → passed_over ds [] ≡ true
no_term_passed ds = some_no_term _

-- and in P it has the factor 1, wherever it stands.
pub no_term_factor : (front back : List (List Term)) → branching (front ++ [] ∷ back) ≡ branching (front ++ back)
unfolding branching same_terms
no_term_factor [] back = omega arith
no_term_factor (ts ∷ front) back = ap (λ (p : ℕ). suc (same_terms ts) * p) (no_term_factor front back)

-- ---- of a sheet: condition c, whose head is zero

module _ (s : List ℕ) (c : ℕ) (zero_head : head_at s c ≡ 0) where
  -- Every assignment meets it.
  pub withdrawn-met : {A : Type 0} (f : ℕ → A) → MeetsCondition f (condition_at s c)
  withdrawn-met f = subst (MeetsCondition f) (sym (withdrawn-empty s c zero_head)) (no_term_met f)

  -- (The condition that a node takes is the sheet's of that number.)
  taken-terms : (ds : Decisions) (ts : List Term) → TakenAt ds 1 (conditions s) c ts → condition_at s c ≡ ts
  taken-terms ds ts at =
      let long : length (conditions s) ≡ length at.front + length (ts ∷ at.back) = ap length at.place ∙ length-append at.front (ts ∷ at.back) in
      let number : suc (length at.front) ≡ c = omega (arith, at.number) in
      ap (condition_at s) (sym number)
      ∙ sym (conditions_at s (length at.front) (omega (arith, long, conditions-length s)))
      ∙ ap (λ (tss : List (List Term)). get_or tss (length at.front) []) at.place
      ∙ get_or-append_seam at.front ts at.back []

  -- No node takes it, under whatever decisions,
  not_taken : (ds : Decisions) (ts : List Term) → TakenAt ds 1 (conditions s) c ts → ⊥
  not_taken ds ts at =
      let none : ts ≡ [] = sym (taken-terms ds ts at) ∙ withdrawn-empty s c zero_head in
      false≢true (sym at.unmet ∙ ap (passed_over ds) none ∙ no_term_passed ds)

  pub withdrawn_untaken : (ds : Decisions) (ts : List Term) → taken ds 1 (conditions s) ≢ takes c ts
  withdrawn_untaken ds ts e = not_taken ds ts (taken_at ds 1 (conditions s) c ts e)

  -- so no ground of a search names it.
  pub withdrawn_no_ground : (ds : Decisions) → node ds (conditions s) ≢ ground c
  withdrawn_no_ground ds e = let at = ground_at ds (conditions s) c e in not_taken ds at.terms at.taken

-- ---- along a chain

-- A chain that begins at the zero is that of a withdrawn condition, and no other is.
pub chain_some : (q : Term → Bool) (s : List ℕ) → Accepted s → (r : ℕ) → r ≤ record_count s → some_term q (terms_from s r) ≡ (eqb r 0 || any_term q (terms_from s r))
chain_some q s ok zero high = rw (terms_end s) (some_no_term q)
chain_some q s ok (suc r) high = rw (terms_step s ok (suc r) (omega arith) high, ne_eqb (suc r) 0 (λ e. omega arith)) (some_any q _ _)
