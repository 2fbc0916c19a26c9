-- Lists of reassignments, one after the other (document 02, job 8: "For every list of moves from a counted start, buffers otherwise untouched").
use Rattle.std.specs.Prelude.{ℕ, List, [], ◌∷◌, ◌≡◌}
use Rattle.sheet.specs.Answers.{Answer, refused, answered}
use Rattle.reassignment.specs.Count.{count_answer}
use Rattle.reassignment.specs.Reassign.{reassign_answer, reassign_grouping}

-- "a lot and its new byte"
pub record Move : Type 0 where
  pub lot : ℕ
  pub value : ℕ

-- What a caller has from one reassignment to the next: the grouping's bytes, and the running count.
pub record Running : Type 0 where
  pub grouping : List ℕ
  pub count : ℕ

-- The running count behind an answer: the new count, or where a check refuses, the count that there was.
abbrev pub count_after : Answer → ℕ → ℕ
count_after (refused check place) count = count
count_after (answered new second third) count = new

-- One call of the service: the grouping as it leaves it, and the count behind its answer. A refused one changes nothing.
abbrev pub moved : List ℕ → Running → Move → Running
moved s at move =
    record {
      grouping = reassign_grouping s at.grouping at.count move.lot move.value;
      count = count_after (reassign_answer s at.grouping at.count move.lot move.value) at.count;
    }

-- A list of calls.
unfoldable pub moved_all : List ℕ → Running → List Move → Running
moved_all s at [] = at
moved_all s at (move ∷ moves) = moved_all s (moved s at move) moves

-- "the kept count equals the count over all conditions", which at "a counted start" it does: the counting service answers it for the grouping as it is.
abbrev pub Counted : List ℕ → Running → Type 0
Counted s at = count_answer s at.grouping ≡ answered at.count 0 0
