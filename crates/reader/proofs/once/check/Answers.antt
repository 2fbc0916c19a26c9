-- `reader::once::check` meets its contract: k zeros are flags of which none is set, and checks 1 to 5 make the sheet one to walk.
use Prim.Native.Nat.{ℕ, ◌≤◌}
use mathlib.Core.List.{List}
use mathlib.Core.Path.{◌∙◌}
use native.Mathlib.Omega.{arith}
use Rattle.sheet.proofs.Accepted.{records-counted, heads_found}
use Rattle.sheet.proofs.Walks.{signs_tell, nexts_found}
use Rattle.reader.proofs.Flags.{zeros_length, none_flagged}
use Rattle.reader.proofs.once.check.Goals as goal

pub reached_once-requires : goal.reached_once-requires
reached_once-requires c =
    let few : c.args.h.records ≤ 1024 = omega (arith, c.requires.0.records, records-counted c.requires.0) in
    let s : List ℕ = c.args.sheet.now in
    let k : ℕ = c.args.h.records in
    let (has, four, five) = c.requires in (
      record {
        flaggable = record { header = has; signs = signs_tell s five; room = zeros_length 1024 k (few) ∙ records-counted has };
        heads = heads_found s four;
        nexts = nexts_found s five;
      },
      none_flagged 1024 k (few),
    )
