use Prim.Native.Nat.{ℕ}
use mathlib.Core.List.{List}
use mathlib.Core.Path.{ap, ◌∙◌}
use native.Mathlib.Omega.{arith}
use lib.ListN.{length, take, drop}
use Rattle.sheet.proofs.Accepted.{sound}
use Rattle.equality.specs.Search.{grouping_bytes}
use Rattle.equality.proofs.Visits.{met_tree, ground_tree, clique_tree, split_tree}
use Rattle.node.specs.Found.{untaken_as}
use Rattle.scan.proofs.Settling.{level-or-none, later_through, later_above}
use Rattle.outcome.proofs.Fitting.{node-count}
use Rattle.visit.proofs.Branching.{small, level_fits, pair_fits, may_note, same_able, same_open, over, apart_able, apart_later, apart_open, told_same}
use Rattle.visit.proofs.Exploring.{none_explored, met_explored, ground_explored, clique_explored}
use Rattle.visit.proofs.Looking.{Parts, look, still, is_ground, term_parts, untaken_is, pair_parts}
use Rattle.visit.proofs.Splitting.{split-ended, split_over, split-apart}
use Rattle.visit.proofs.Standing.{within-rises, markable, entries-within, apart-standing, below_standing, below_same, untouched_through}
use Rattle.visit.proofs.+branches_visit.Goals as goal
use Rattle.visit.proofs.+branches_visit.Goals.{visit-in-Split, visit-in-Met+in-Split-untaken}

pub branches-join-same-requires : goal.branches-join-same-requires
branches-join-same-requires t c = small c.requires.0.sheet.accepted c.requires.2

pub branches-overflow_add-up-2 : goal.branches-overflow_add-up-2
branches-overflow_add-up-2 t c = omega (arith, level_fits c.requires.0.sheet.accepted c.requires.2)

pub branches-settle-requires : goal.branches-settle-requires
branches-settle-requires t c = level-or-none c.args.on.apart _ (may_note c.requires.0.sheet.accepted c.requires.2)

pub branches-visit-under_same-requires : goal.branches-visit-under_same-requires
branches-visit-under_same-requires t c =
    let ok = c.requires.0.sheet.accepted in
    let joins = c.join-same.ensures.joined in
    (omega (arith, c.decreases, same_open ok c.requires.2 joins), (c.requires.0, same_able ok c.requires.2 joins c.settle.ensures))

-- The same branch met something, or found the store full: that is, it did not end as `Cannot`.
pub branches-returns-in_default : goal.branches-returns-in_default
branches-returns-in_default t c =
    let ok = c.requires.0.sheet.accepted in
    let told = told_same ok c.join-same.ensures.joined c.visit-under_same.ensures.visited in
    let ended = c.visit-under_same.ensures.untouched in
    record {
      visited = λ ds tree st e res v.
          split-ended (split_tree v e) c.args.at.before c.args.store.now _ _ c.args.grouping.now _ c.write.ensures _ (told ds st e) c.in_default.not-Cannot;
      untouched = (ended.0, later_above _ _ _ (over ok c.requires.2 c.settle.ensures ended.1));
    }

-- It is over, and the store has no room for the apart branch;
pub branches-returns-then-capacity_of-n : goal.branches-returns-then-capacity_of-n
branches-returns-then-capacity_of-n t c =
    let ok = c.requires.0.sheet.accepted in
    let told = told_same ok c.join-same.ensures.joined c.visit-under_same.ensures.visited in
    let ended = c.visit-under_same.ensures.untouched in
    record {
      visited = λ ds tree st e res v.
          split_over (split_tree v e) c.args.at.before c.args.store.now _ _ c.args.grouping.now _ c.write.ensures _ (told ds st e) c.in-Cannot.n c.in-Cannot.is
          (omega (arith, c.capacity_of.ensures, c.if-capacity_of-n.true));
      untouched = (ended.0, later_above _ _ _ (over ok c.requires.2 c.settle.ensures ended.1));
    }

-- or it has, and the branch is visited.
pub branches-set_apart-requires : goal.branches-set_apart-requires
branches-set_apart-requires t c =
    let ok = c.requires.0.sheet.accepted in
    let lots = small ok c.requires.2 in
    (omega (arith, pair_fits ok c.requires.2, c.visit-under_same.auto.pairs), lots.0, lots.1)

pub branches-visit-requires : goal.branches-visit-requires
branches-visit-requires t c =
    let ok = c.requires.0.sheet.accepted in
    let sized = c.visit-under_same.auto.pairs in
    let ended = c.visit-under_same.ensures.untouched in (
      omega (arith, c.decreases, apart_open ok c.requires.2 _ _ sized ended.0 c.set_apart.ensures),
      (
        record { sheet = c.requires.0.sheet; lots = c.visit-under_same.auto.grouping ∙ c.requires.0.lots },
        apart_able ok c.requires.2 (over ok c.requires.2 c.settle.ensures ended.1) c.clear_above.ensures _ _ sized ended.0 c.set_apart.ensures,
      ),
    )

pub branches-returns : goal.branches-returns
branches-returns t c =
    let ok = c.requires.0.sheet.accepted in
    let told = told_same ok c.join-same.ensures.joined c.visit-under_same.ensures.visited in
    let sized = c.visit-under_same.auto.pairs in
    let ended = c.visit-under_same.ensures.untouched in
    record {
      visited = λ ds tree st e res v.
          split-apart (split_tree v e) c.args.at.before c.args.store.now _ c.visit-under_same.new.store c.args.grouping.now _
          c.write.ensures _ (told ds st e) c.in-Cannot.n c.in-Cannot.is c.set_next.new.store _ _ _
          c.set_next.ensures
          (λ u w. c.visit.ensures.visited _ u (apart-standing st ok _ _ e _ _ sized ended.0 c.set_apart.ensures) res w);
      untouched = (
        untouched_through c.args.pairs.now c.visit-under_same.new.pairs c.set_apart.new.pairs c.visit.new.pairs c.args.count c.args.on.a.0 c.args.on.b.0
            ended.0 c.set_apart.ensures c.visit.ensures.untouched.0,
        later_through c.args.levels.now c.clear_above.new.levels c.visit.new.levels c.args.at.level
            (apart_later ok c.requires.2 (over ok c.requires.2 c.settle.ensures ended.1) c.clear_above.ensures) c.visit.ensures.untouched.1,
      );
    }

-- ---- visit

-- There is no room;
pub visit-returns-then-capacity_of-before-clause-visited : goal.visit-returns-then-capacity_of-before-clause-visited
visit-returns-then-capacity_of-before-clause-visited t c =
    λ ds tree st res v.
    none_explored c.args.at.before c.args.store.now c.args.store.now c.args.grouping.now tree
    (omega (arith, node-count tree, c.capacity_of.ensures, c.if-capacity_of-before.true))

-- there is, and the node is found.
pub visit-node_at-found-requires : goal.visit-node_at-found-requires
visit-node_at-found-requires t c =
    (c.requires.0.sheet, markable c.requires.1.standing, c.locate-place.ensures.within)

-- It is a ground:
pub visit-returns-in-Ground-clause-visited : goal.visit-returns-in-Ground-clause-visited
visit-returns-in-Ground-clause-visited t c ds tree st res v =
    let looked = look c.requires.1.standing c.locate-place.ensures.stands c.node_at-found.ensures.node c.node_at-found.ensures.leaves c.node_at-found.ensures.outside c.node_at-found.auto.pairs in
    ground_explored c.args.at.before c.args.store.now _ c.args.grouping.now (omega (arith, c.capacity_of.ensures, c.if-capacity_of-before.false)) c.in-Ground.c.0 tree
    (ground_tree v (is_ground looked _ c.in-Ground.is ds (st, res))) c.write.ensures

-- or it takes no condition:
pub visit-overflow_cast-lots : goal.visit-overflow_cast-lots
visit-overflow_cast-lots t c =
    record { fits = omega (arith, c.requires.0.lots, (sound c.args.sheet.now c.requires.0.sheet.accepted).header.lots) }

pub visit-none_taken-untaken-requires : goal.visit-none_taken-untaken-requires
visit-none_taken-untaken-requires t c =
    let s = c.args.sheet.now in
    let looked = look c.requires.1.standing c.locate-place.ensures.stands c.node_at-found.ensures.node c.node_at-found.ensures.leaves c.node_at-found.ensures.outside c.node_at-found.auto.pairs in (
      markable (still looked _ c.requires.1.standing),
      omega (arith, c.requires.0.lots, (sound s c.requires.0.sheet.accepted).header.lots),
      within-rises s c.locate-place.result c.locate-place.ensures.within,
    )

-- it is met,
pub visit-write_grouping-requires : goal.visit-write_grouping-requires
visit-write_grouping-requires t c =
    (omega (arith, c.requires.0.lots, (sound c.args.sheet.now c.requires.0.sheet.accepted).header.lots), entries-within c.requires.1.standing)

pub visit-returns-in-Met-untaken-clause-visited : goal.visit-returns-in-Met-untaken-clause-visited
unfolding grouping_bytes
visit-returns-in-Met-untaken-clause-visited t c ds tree st res v =
    let looked = look c.requires.1.standing c.locate-place.ensures.stands c.node_at-found.ensures.node c.node_at-found.ensures.leaves c.node_at-found.ensures.outside c.node_at-found.auto.pairs in
    met_explored c.args.at.before c.args.store.now _ c.args.grouping.now (omega (arith, c.capacity_of.ensures, c.if-capacity_of-before.false)) ds _ tree
    (met_tree v (untaken_is looked c.in-Met.is c.requires.0.lots _ c.none_taken-untaken.ensures.node ds (st, res) ∙ ap untaken_as c.in-Met-untaken.is))
    c.write-in-Met-untaken.ensures
    (c.write_grouping.ensures ∙ ap (λ (lots : List ℕ). take (length c.args.grouping.now) (drop 1 lots)) st.represents.lots)

-- a clique,
pub visit-returns-in-Clique-clause-visited : goal.visit-returns-in-Clique-clause-visited
visit-returns-in-Clique-clause-visited t c ds tree st res v =
    let looked = look c.requires.1.standing c.locate-place.ensures.stands c.node_at-found.ensures.node c.node_at-found.ensures.leaves c.node_at-found.ensures.outside c.node_at-found.auto.pairs in
    clique_explored c.args.at.before c.args.store.now _ c.args.grouping.now (omega (arith, c.capacity_of.ensures, c.if-capacity_of-before.false)) tree
    (clique_tree v (untaken_is looked c.in-Met.is c.requires.0.lots _ c.none_taken-untaken.ensures.node ds (st, res) ∙ ap untaken_as c.in-Clique.is))
    c.write-in-Clique.ensures

-- or a split, on a term or on a pair of classes. Either split is visited.
pub visit-branches-requires : goal.visit-branches-requires
visit-branches-requires t c =
    let looked = look c.requires.1.standing c.locate-place.ensures.stands c.node_at-found.ensures.node c.node_at-found.ensures.leaves c.node_at-found.ensures.outside c.node_at-found.auto.pairs in
    let known : Parts c.args.at.limit c.args.sheet.now c.args.map c.args.from c.args.count c.args.pairs.now c.match-found.pairs c.match-found.on =
    elim c.match-found.branch [
      | visit-in-Split w ↦ rw (w.pairs-is, w.on-is) (term_parts looked _ w.in-Split.is)
      | visit-in-Met+in-Split-untaken w ↦
          let told = w.none_taken-untaken in
          rw (w.pairs-is, w.on-is)
          (pair_parts looked w.in-Met.is c.requires.0.lots told.result told.ensures.node told.ensures.leaves _ told.ensures.outside told.auto.pairs _ w.in-Split-untaken.is)
    ] in
    let path = c.requires.1 in
    let standing = below_standing path.standing c.match-found.pairs known.sized known.untouched in (
      omega (arith, c.decreases, below_same path.standing c.match-found.pairs known.sized known.untouched),
      (
        c.requires.0,
        omega (arith, c.capacity_of.ensures, c.if-capacity_of-before.false),
        record {
          settled = c.locate-place.ensures.settled;
          path = path.path;
          standing = standing;
          splits = known.splits path.path (path.standing, path.resumes);
          leaves = known.leaves path.path (path.standing, path.resumes);
          levels = path.levels;
        },
      ),
    )

pub visit-returns : goal.visit-returns
visit-returns t c =
    let looked = look c.requires.1.standing c.locate-place.ensures.stands c.node_at-found.ensures.node c.node_at-found.ensures.leaves c.node_at-found.ensures.outside c.node_at-found.auto.pairs in
    let known : Parts c.args.at.limit c.args.sheet.now c.args.map c.args.from c.args.count c.args.pairs.now c.match-found.pairs c.match-found.on =
    elim c.match-found.branch [
      | visit-in-Split w ↦ rw (w.pairs-is, w.on-is) (term_parts looked _ w.in-Split.is)
      | visit-in-Met+in-Split-untaken w ↦
          let told = w.none_taken-untaken in
          rw (w.pairs-is, w.on-is)
          (pair_parts looked w.in-Met.is c.requires.0.lots told.result told.ensures.node told.ensures.leaves _ told.ensures.outside told.auto.pairs _ w.in-Split-untaken.is)
    ] in
    record {
      visited = λ ds tree st res v.
          c.branches.ensures.visited ds tree (below_standing st c.match-found.pairs known.sized known.untouched) (known.splits ds (st, res)) (known.leaves ds (st, res)) v;
      untouched = (
        (λ i h. c.branches.ensures.untouched.0 i h ∙ known.untouched i h),
        later_through _ _ _ _ c.locate-place.ensures.later c.branches.ensures.untouched.1,
      );
    }
