-- For the contracts of the code; this file states nothing of document 01. `declared.NodeRecord` is the code's enum, and `NodeRecord` the
-- definitions' data.
use Rattle.std.specs.Prelude.{ℕ, ◌*◌, ◌≤◌, List, length}
use Rattle.store.specs.declared.NodeRecord as declared
use Rattle.store.specs.declared.NodeRecord.TheVariants.{Split, Ground, Met, Clique, Other}
use Rattle.store.specs.Records.{NodeRecord, split_record, ground_record, met_record, clique_record, no_record, record_length}

-- The record that a value of the code's enum stands for.
abbrev pub record_of : declared.NodeRecord → NodeRecord
record_of (Split a b next) = split_record a.0 b.0 next.0
record_of (Ground c) = ground_record c.0
record_of Met = met_record
record_of Clique = clique_record
record_of Other = no_record

-- Record `number`, counted from 1, has its place whole within the bytes.
pub record HasPlace (bytes : List ℕ) (number : ℕ) : Type 0 where
  pub least : 1 ≤ number
  pub whole : record_length * number ≤ length bytes
