-- Lists: what holds of each element.
use Rattle.std.specs.Prelude.{List, [], ◌∷◌}

-- P holds of every element.
abbrev pub All : {A : Type 0} → (A → Type 0) → List A → Type 0
All P [] = Unit {0}
All P (x ∷ xs) = P x × All P xs
