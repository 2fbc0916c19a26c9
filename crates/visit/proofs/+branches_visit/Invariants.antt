-- `visit::visit` and `visit::branches`, which call each other: whatever path the map and the pairs represent, the visit writes the records of the tree that
-- the rule visits from there, as far as the store has room. The measure is what is open, the "same" terms or with a limit the pairs of lots, counted by the map
-- and the pairs: a split closes one in each of its branches. The settled levels are of the levels up to the path's: a visit writes only its level and later
-- ones, which are forgotten before the apart branch.
use Rattle.std.proofs.Common.{◌+◌, ◌*◌}
use Rattle.visit.proofs.Standing.{open_by_map}
use Rattle.visit.proofs.+branches_visit.Given as goal

abbrev pub decreases-branches : goal.decreases-branches
decreases-branches l = 2 * open_by_map l.at.limit l.sheet.now l.map.lots l.pairs.now l.count

abbrev pub decreases-visit : goal.decreases-visit
decreases-visit l = 2 * open_by_map l.at.limit l.sheet.now l.map.lots l.pairs.now l.count + 1
