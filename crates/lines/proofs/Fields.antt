-- A line as its first field and what follows it, and the lines of a store's records one by one.
use Prim.Native.Nat.{ℕ, suc, ◌+◌, ◌-◌, ◌<◌, ◌≤◌}
use mathlib.Core.List.{List, [], ◌∷◌, ◌++◌, map}
use mathlib.Core.Path.{◌≡◌, refl, ap}
use native.Mathlib.Omega.{arith}
use lib.ListN.{length, drop, get_or}
use lib.Seq.{drop-cons}
use Rattle.sheet.specs.Conditions.{count_up}
use Rattle.store.specs.Records.{NodeRecord, record_at}
use Rattle.lines.specs.declared.Text.{Text}
use Rattle.lines.specs.Lines.{decimal, line, record_line, record_lines}
use Rattle.lines.specs.Appending.{HasRoom}
use Rattle.lines.proofs.Appending.{Left, start}

-- What follows a line's first field: the other fields, each after a space, and the line's end.
abbrev pub after : List (List ℕ) → List ℕ
after [] = 10 ∷ []
after (field ∷ fields) = 32 ∷ field ++ after fields

pub line_after : (field : List ℕ) (fields : List (List ℕ)) → line field fields ≡ field ++ after fields
unfolding line
line_after field [] = refl
line_after field (next ∷ fields) = ap (λ (l : List ℕ). field ++ 32 ∷ l) (line_after next fields)

-- The start of a line that is written field by field,
pub start_line : (text : Text) (field : List ℕ) (fields : List (List ℕ)) → HasRoom text (line field fields)
    → Left text (line field fields) text (field ++ after fields)
start_line text field fields h = rw (line_after field fields) (start (rw (line_after field fields) at h))

-- and the next of its numbers.
module _ {old text : Text} {all : List ℕ} (numbers : List ℕ) (i : ℕ) (w : Left old all text (after (map decimal (drop i numbers)))) where
  pub next_field : i < length numbers → Left old all text ((32 ∷ decimal (get_or numbers i 0)) ++ after (map decimal (drop (suc i) numbers)))
  next_field h = rw (drop-cons numbers i 0 h) at w

-- The records of a store from the next on.
abbrev pub records_from : List ℕ → ℕ → ℕ → List NodeRecord
records_from store count next = map (record_at store) (count_up (count + 1 - next) next)

-- Where their lines are appended one by one: the next, and none after the last.
module _ {old text : Text} {all : List ℕ} (store : List ℕ) (count next : ℕ) (w : Left old all text (record_lines (records_from store count next))) where
  pub next_record : next ≤ count
      → Left old all text (record_line (record_at store next) ++ record_lines (records_from store count (suc next)))
  unfolding count_up record_lines
  next_record h = let left : count + 1 - next ≡ suc (count + 1 - suc next) = omega arith in rw left at w

  pub no_record : count < next → Left old all text []
  unfolding count_up record_lines
  no_record h = let none : count + 1 - next ≡ 0 = omega arith in rw none at w
