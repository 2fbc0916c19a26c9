-- Which term is not false, by classes and a test of two classes; and how far a walk over the decisions goes. For the contracts of the code; this file states nothing of document 01.
use Rattle.std.specs.Prelude.{ℕ, suc, Bool, true, false, cond, not, ◌||◌, List, [], ◌∷◌, eqb, length}
use Rattle.sheet.specs.Conditions.{Term, same, apart}
use Rattle.equality.specs.Node.{Decisions, class_of, between}

-- A term is not false, by the classes x and y of its lots and by which two classes are marked: a "same" term whose lots share a class or whose classes are not
-- marked, an "apart" term whose lots share none.
abbrev pub allows_classes : (ℕ → ℕ → Bool) → Bool → ℕ → ℕ → Bool
allows_classes marks is_same x y = cond is_same (eqb x y || not (marks x y)) (not (eqb x y))

abbrev pub allows : List ℕ → (ℕ → ℕ → Bool) → Term → Bool
allows cs marks (same a b) = allows_classes marks true (class_of cs a) (class_of cs b)
allows cs marks (apart a b) = allows_classes marks false (class_of cs a) (class_of cs b)

-- The latest decision that sets lots of the classes x and y apart, by how many decisions there are with and before it; 0 where there is none.
unfoldable pub latest_between : List ℕ → ℕ → ℕ → Decisions → ℕ
latest_between cs x y [] = 0
latest_between cs x y (same a b ∷ ds) = latest_between cs x y ds
latest_between cs x y (apart a b ∷ ds) = cond (between cs x y a b) (suc (length ds)) (latest_between cs x y ds)
