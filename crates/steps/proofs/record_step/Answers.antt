-- `steps::record_step`: by the kind of the record.
use Prim.Native.Nat.{ℕ, ◌≤◌}
use mathlib.Core.List.{List}
use mathlib.Core.Path.{sym, ap, ◌∙◌}
use native.Mathlib.Omega.{arith}
use Rattle.sheet.specs.declared.Header.{Header}
use Rattle.sheet.specs.Format.{lowest_lot, most_lots}
use Rattle.sheet.proofs.Accepted.{sound}
use Rattle.limit.specs.Scan.{limit_in}
use Rattle.refutation.specs.Refutation.{walk_record}
use Rattle.path.specs.Paths.{path_of}
use Rattle.steps.specs.Steps.{Counted}
use Rattle.steps.proofs.record_step.Goals as goal

-- The sheet has no more lots than it may.
few_lots : (s : List ℕ) (counts : Header) → Counted s counts → counts.lots ≤ most_lots
few_lots s counts counted = omega (arith, counted.lots, (sound s counted.sheet.accepted).header.lots)

pub split_step-requires : goal.split_step-requires
split_step-requires c = (c.requires.2, c.requires.5, few_lots c.args.sheet.now c.args.counts c.requires.0)

pub clique_step-requires : goal.clique_step-requires
clique_step-requires c = (few_lots c.args.sheet.now c.args.counts c.requires.0, c.requires.2, c.requires.3, c.requires.4)

pub returns-in-Split-clause-walk : goal.returns-in-Split-clause-walk
returns-in-Split-clause-walk c = λ walk_rest rest left.
    ap (walk_record (limit_in c.args.limit) lowest_lot c.args.sheet.now walk_rest rest c.args.at.number (path_of c.args.path.now c.args.at.depth)) (sym c.in-Split.ensures)
    ∙ c.split_step.ensures.walk c.args.sheet.now c.requires.0.lots walk_rest rest

pub returns-in-Ground-clause-walk : goal.returns-in-Ground-clause-walk
returns-in-Ground-clause-walk c = λ walk_rest rest left.
    ap (walk_record (limit_in c.args.limit) lowest_lot c.args.sheet.now walk_rest rest c.args.at.number (path_of c.args.path.now c.args.at.depth)) (sym c.in-Ground.ensures)
    ∙ c.ground_step.ensures.walk (limit_in c.args.limit) walk_rest rest left
