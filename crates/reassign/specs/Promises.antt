-- What a reassignment promises of a running count that is right.
use Rattle.std.specs.Prelude.{ℕ, ◌≤◌, List, ◌≡◌}
use Rattle.sheet.specs.Format.{lot_count}
use Rattle.sheet.specs.Answers.{Answer}
use Rattle.reassignment.specs.Count.{count_answer}
use Rattle.reassignment.specs.Reassign.{with_value}
use Rattle.reassignment.specs.Moves.{count_after, Counted}

-- "the kept count equals the count over all conditions": where it does before the call, the count behind the answer does, for the grouping as it is at exit.
-- Behind a refusal that is the count that there was.
abbrev pub StaysCounted : Answer → List ℕ → List ℕ → ℕ → List ℕ → Type 0
StaysCounted answer s grouping count grouping' =
    Counted s (record { grouping = grouping; count = count }) → Counted s (record { grouping = grouping'; count = count_after answer count })

-- And each lot of 1 to n can be reassigned then: the lot's byte is written, and the answer is the counting service's, of the grouping as it is at exit.
abbrev pub RightGoesThrough : Answer → List ℕ → List ℕ → ℕ → ℕ → ℕ → List ℕ → Type 0
RightGoesThrough answer s grouping count lot value grouping' =
    Counted s (record { grouping = grouping; count = count }) → 1 ≤ lot → lot ≤ lot_count s
    → (grouping' ≡ with_value grouping lot value) × (answer ≡ count_answer s grouping')
