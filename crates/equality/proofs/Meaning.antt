-- The computed tests agree with the propositions that they test.
use Prim.Native.Nat.{ℕ}
use mathlib.Core.Bool.{Bool, true, false, ◌&&◌, ◌||◌, false≢true}
use mathlib.Core.List.{List, [], ◌∷◌}
use mathlib.Core.Logic.{◌⊎◌, inl, inr, ⊎_elim, ◌↔◌}
use mathlib.Core.Path.{◌≡◌, refl}
use borrow.Author.Tests.{eqb-true, eqb-false, eq-eqb, ne_eqb, not-true}
use lib.Dec.{T, eqb}
use Rattle.sheet.specs.Conditions.{Term, same, apart, conditions}
use Rattle.equality.specs.Meaning.{Holds, AnyTerm, any_term, no_term, SomeTerm, some_term, MeetsCondition, MeetsAll, Meets, holds, meets_condition, meets_all, meets}

-- A test that decides a proposition.
abbrev pub Decides : Bool → Type 0 → Type 0
Decides b P = b ≡ true ↔ P

decides_itself : (b : Bool) → Decides b (T b)
decides_itself true = (λ _. tt, λ _. refl)
decides_itself false = (λ e. false≢true e, λ h. absurd h)

decides_either : {A B : Type 0} (a b : Bool) → Decides a A → Decides b B → Decides (a || b) (A ⊎ B)
decides_either true b da db = (λ _. inl (da.0 refl), λ _. refl)
decides_either false b da db = (λ e. inr (db.0 e), ⊎_elim (λ h. absurd (false≢true (da.1 h))) db.1)

decides_both : {A B : Type 0} (a b : Bool) → Decides a A → Decides b B → Decides (a && b) (A × B)
decides_both true b da db = (λ e. (da.0 refl, db.0 e), λ h. db.1 h.1)
decides_both false b da db = (λ e. absurd (false≢true e), λ h. absurd (false≢true (da.1 h.0)))

-- Some term: the test decides the proposition where it does so at each term.
any_decides : (p : Term → Bool) (P : Term → Type 0) → ((t : Term) → Decides (p t) (P t))
    → (ts : List Term) → Decides (any_term p ts) (AnyTerm P ts)
unfolding any_term AnyTerm
any_decides p P each [] = decides_itself false
any_decides p P each (t ∷ ts) = decides_either (p t) (any_term p ts) (each t) (any_decides p P each ts)

pub some_decides : (p : Term → Bool) (P : Term → Type 0) → ((t : Term) → Decides (p t) (P t))
    → (ts : List Term) → Decides (some_term p ts) (SomeTerm P ts)
unfolding some_term SomeTerm
some_decides p P each [] = decides_itself no_term
some_decides p P each (t ∷ ts) = decides_either (p t) (any_term p ts) (each t) (any_decides p P each ts)

-- A term, a condition, a sheet.
pub holds_decides : (f : ℕ → ℕ) (t : Term) → Decides (holds f t) (Holds f t)
holds_decides f (same a b) = (eqb-true (f a) (f b), eq-eqb (f a) (f b))
holds_decides f (apart a b) =
    (λ e. eqb-false (f a) (f b) (not-true (eqb (f a) (f b)) e), λ differ. rw (ne_eqb (f a) (f b) differ))

pub condition_decides : (f : ℕ → ℕ) (ts : List Term) → Decides (meets_condition f ts) (MeetsCondition f ts)
condition_decides f ts = some_decides (holds f) (Holds f) (holds_decides f) ts

pub all_decides : (f : ℕ → ℕ) (tss : List (List Term)) → Decides (meets_all f tss) (MeetsAll f tss)
unfolding meets_all
all_decides f [] = (λ _. tt, λ _. refl)
all_decides f (ts ∷ tss) = decides_both (meets_condition f ts) (meets_all f tss) (condition_decides f ts) (all_decides f tss)

pub meets_decides : (f : ℕ → ℕ) (s : List ℕ) → Decides (meets f s) (Meets f s)
meets_decides f s = all_decides f (conditions s)
