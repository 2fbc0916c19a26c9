-- The room that the visits have, for the contracts of the inner functions; this file states nothing of document 01. A law relates each number to another
-- (`proofs/Limits`); beside those laws only the proofs of the two searches, which give the length of the array of pairs, look at one.
use Rattle.std.specs.Prelude.{ℕ}
use Rattle.limit.specs.Meaning.{Limit, unlimited, up_to}

-- The most splits on a path of the search: document 01 has one for each "same" term at most; with a limit there is one for each pair of lots.
unfoldable pub most_depth : Limit → ℕ
most_depth unlimited = 1024
most_depth (up_to g) = 8256

-- The bytes for the pairs that a path sets apart.
unfoldable pub pairs_room : Limit → ℕ
pairs_room unlimited = 2048
pairs_room (up_to g) = 16512

-- The highest level of a path.
unfoldable pub most_level : ℕ
most_level = 8257
