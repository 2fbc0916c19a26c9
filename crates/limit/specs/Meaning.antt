-- A limit on the classes (document 02, job 7; there: a cap on consignments), and the assignments that keep it.
use Rattle.std.specs.Prelude.{ℕ, suc, ◌≤◌, Bool, true, false, cond, ◌||◌, List, [], ◌∷◌, map, ◌⊎◌, ◌≡◌, leb, ltb, eqb, length}
use Rattle.sheet.specs.Verdicts.{Verdict, Passes}
use Rattle.sheet.specs.Format.{lot_count}
use Rattle.sheet.specs.Checks.{refuses_if, first_refusal}
use Rattle.sheet.specs.Conditions.{count_up}
use Rattle.equality.specs.Meaning.{Assignment, Meets}

-- "buyers want "no more than g"": no limit, or at most g classes.
pub data Limit : Type 0 where
  unlimited : Limit
  up_to : ℕ → Limit

-- "a cap g from 1 to 129"
abbrev pub most_limit : ℕ
most_limit = 129

-- "Checks: 20, cap 0 or above 129, right after 7; place is the cap."
abbrev pub ill_limited : ℕ → Bool
ill_limited g = eqb g 0 || ltb most_limit g

unfoldable pub check20 : ℕ → Verdict
check20 g = refuses_if (ill_limited g) 20 g

-- What is checked of a limit, if there is one.
abbrev pub limit_checks : Limit → List Verdict
limit_checks unlimited = []
limit_checks (up_to g) = check20 g ∷ []

-- "a cap that 20 admits", or none.
abbrev pub Admitted : Limit → Type 0
Admitted limit = first_refusal (limit_checks limit) ≡ Passes

-- ---- different numbers

-- A value stands in a list.
abbrev pub Among : {A : Type 0} → A → List A → Type 0
Among x [] = ⊥
Among x (v ∷ vs) = (x ≡ v) ⊎ Among x vs

-- At most g different values on lots 0 to n: some g values, or fewer, are all that these lots have. The values may be of any type.
pub record AtMost (A : Type 0) (g n : ℕ) (f : ℕ → A) : Type 0 where
  pub values : List A
  pub few : length values ≤ g
  pub has : (lot : ℕ) → lot ≤ n → Among (f lot) values

-- "numberings with at most g different numbers, the hold's 0 included": those of lots 0 to n are counted.
abbrev pub Keeps : {A : Type 0} → Limit → ℕ → (ℕ → A) → Type 0
Keeps unlimited n f = Unit {0}
Keeps {A} (up_to g) n f = AtMost A g n f

-- "Under a cap that 20 admits, met and unmeetable are about numberings with at most g different numbers": some assignment that keeps the limit meets the sheet;
abbrev pub CanBeMetUnder : Limit → List ℕ → Type 0
CanBeMetUnder limit s = (f : ℕ → ℕ) × Assignment f × Keeps limit (lot_count s) f × Meets f s

-- none does.
abbrev pub CannotBeMetUnder : Limit → List ℕ → Type 0
CannotBeMetUnder limit s = (f : ℕ → ℕ) → Assignment f → Keeps limit (lot_count s) f → ¬ Meets f s

-- ---- the same, computed, for values with a test of equality

module _ {A : Type 0} (test : A → A → Bool) where
  unfoldable pub among : A → List A → Bool
  among x [] = false
  among x (v ∷ vs) = test x v || among x vs

  -- Of a list, each value once.
  unfoldable pub once : List A → List A
  once [] = []
  once (x ∷ xs) = let rest = once xs in cond (among x rest) rest (x ∷ rest)

  -- How many different values lots 0 to n have.
  unfoldable pub different_by : ℕ → (ℕ → A) → ℕ
  different_by n f = length (once (map f (count_up (suc n) 0)))

-- For whole numbers.
abbrev pub different : ℕ → (ℕ → ℕ) → ℕ
different n f = different_by eqb n f

abbrev pub keeps : Limit → ℕ → (ℕ → ℕ) → Bool
keeps unlimited n f = true
keeps (up_to g) n f = leb (different n f) g
