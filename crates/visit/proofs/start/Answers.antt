-- `visit::start`: with no decision the map has every lot alone, there are no pairs, and no condition is settled; what is visited from there is the search.
use mathlib.Core.List.{[]}
use mathlib.Core.Path.{sym}
use native.Mathlib.Omega.{arith}
use lib.Seq.{length-take-le}
use Rattle.sheet.specs.Format.{lot_count}
use Rattle.sheet.specs.Conditions.{conditions}
use Rattle.sheet.proofs.Accepted.{sound}
use Rattle.sheet.proofs.Conditions.{conditions_in}
use Rattle.limit.specs.Scan.{limit_in}
use Rattle.limit.proofs.Under.{under_visits}
use Rattle.outcome.specs.Limited.{tree_of}
use Rattle.visit.proofs.Standing.{start_standing, start_settled, start_level}
use Rattle.visit.proofs.start.Goals as goal

pub slice_bounds-levels-end : goal.slice_bounds-levels-end
slice_bounds-levels-end c =
    omega (arith, c.requires.0.sheet.counted, (sound c.args.sheet.now c.requires.0.sheet.accepted).header.conditions)

pub slice_bounds-visit-end : goal.slice_bounds-visit-end
slice_bounds-visit-end c =
    sym (length-take-le _ _ (omega (arith, c.requires.0.sheet.counted, (sound c.args.sheet.now c.requires.0.sheet.accepted).header.conditions)))

pub visit-requires : goal.visit-requires
visit-requires c =
    let s = c.args.sheet.now in
    let ok = c.requires.0.sheet.accepted in (
      c.requires.0,
      record {
        settled = start_settled _ s 256 c.args.m (omega (arith, c.requires.0.sheet.counted, (sound s ok).header.conditions)) (omega (arith, c.requires.0.sheet.counted));
        path = [];
        standing = start_standing c.args.limit s ok _ _ c.new-map.ensures c.requires.1;
        resumes = tt;
        levels = start_level c.args.limit s ok;
      },
    )

pub returns : goal.returns
returns c =
    let s = c.args.sheet.now in
    let ok = c.requires.0.sheet.accepted in
    c.visit.ensures.visited [] (tree_of (limit_in c.args.limit) s)
    (start_standing c.args.limit s ok _ _ c.new-map.ensures c.requires.1)
    tt
    (under_visits (limit_in c.args.limit) (lot_count s) (conditions s) (conditions_in s ok))
