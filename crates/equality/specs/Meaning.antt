-- What it is that an assignment meets a sheet (document 01, "Meaning"; document 02, jobs 2 and 5; source document 001, sections 2.2 and 3.2).
use Rattle.std.specs.Prelude.{ℕ, Bool, true, false, not, ◌&&◌, ◌||◌, List, [], ◌∷◌, ◌⊎◌, ◌≢◌, ◌≡◌, T, eqb}
use Rattle.buffers.specs.Lists.{All}
use Rattle.sheet.specs.Conditions.{Term, same, apart, conditions}

-- "A numbering gives each lot a whole number.": an assignment (document 01: a numbering) is a function on lots. In this file, and wherever a law holds of every
-- such function, the values may be of any type, and lot 0 may have any; what is promised of whole numbers is at the file's end.

-- ""same a b" is true when the two numbers are equal, "apart a b" when they differ; a may equal b."
abbrev pub Holds : {A : Type 0} → (ℕ → A) → Term → Type 0
Holds f (same a b) = f a ≡ f b
Holds f (apart a b) = f a ≢ f b

-- Some of these terms is such and such: as a proposition, and as a test.
unfoldable pub AnyTerm : (Term → Type 0) → List Term → Type 0
AnyTerm P [] = ⊥
AnyTerm P (t ∷ ts) = P t ⊎ AnyTerm P ts

unfoldable pub any_term : (Term → Bool) → List Term → Bool
any_term p [] = false
any_term p (t ∷ ts) = p t || any_term p ts

-- "A zero head therefore means struck: every numbering meets it, the search passes it over, and a ground naming it is refused by 12" (document 02): what a
-- condition with no term, a withdrawn one, counts for, wherever a rule asks whether some term of a condition is such and such.
abbrev pub no_term : Bool
no_term = true

-- Some term of a condition is such and such.
unfoldable pub SomeTerm : (Term → Type 0) → List Term → Type 0
SomeTerm P [] = T no_term
SomeTerm P (t ∷ ts) = P t ⊎ AnyTerm P ts

unfoldable pub some_term : (Term → Bool) → List Term → Bool
some_term p [] = no_term
some_term p (t ∷ ts) = p t || any_term p ts

-- "A condition is met when some term is true", or when it is withdrawn
abbrev pub MeetsCondition : {A : Type 0} → (ℕ → A) → List Term → Type 0
MeetsCondition f ts = SomeTerm (Holds f) ts

-- "a sheet when all conditions are."
abbrev pub MeetsAll : {A : Type 0} → (ℕ → A) → List (List Term) → Type 0
MeetsAll f tss = All (MeetsCondition f) tss

abbrev pub Meets : {A : Type 0} → (ℕ → A) → List ℕ → Type 0
Meets f s = MeetsAll f (conditions s)

-- ---- the same, computed, for whole numbers

abbrev pub holds : (ℕ → ℕ) → Term → Bool
holds f (same a b) = eqb (f a) (f b)
holds f (apart a b) = not (eqb (f a) (f b))

abbrev pub meets_condition : (ℕ → ℕ) → List Term → Bool
meets_condition f ts = some_term (holds f) ts

unfoldable pub meets_all : (ℕ → ℕ) → List (List Term) → Bool
meets_all f [] = true
meets_all f (ts ∷ tss) = meets_condition f ts && meets_all f tss

abbrev pub meets : (ℕ → ℕ) → List ℕ → Bool
meets f s = meets_all f (conditions s)

-- ---- the assignments that promises speak of

-- "A numbering gives each lot a whole number", and of lot 0 "its number is 0 in every numbering" (document 02).
abbrev pub Assignment : (ℕ → ℕ) → Type 0
Assignment f = f 0 ≡ 0

-- Some assignment meets the sheet;
abbrev pub CanBeMet : List ℕ → Type 0
CanBeMet s = (f : ℕ → ℕ) × Assignment f × Meets f s

-- none does.
abbrev pub CannotBeMet : List ℕ → Type 0
CannotBeMet s = (f : ℕ → ℕ) → Assignment f → ¬ Meets f s
