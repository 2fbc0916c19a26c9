use Prim.Native.Nat.{◌+◌}
use mathlib.Core.Path.{◌≡◌, refl, sym, ◌∙◌}
use native.Mathlib.Omega.{arith}
use borrow.Author.Tests.{eq-eqb}
use Rattle.sheet.specs.Conditions.{condition_at, conditions}
use Rattle.sheet.proofs.Accepted.{sound}
use Rattle.sheet.proofs.Scanning.{none_found}
use Rattle.equality.specs.Node.{class_of}
use Rattle.equality.proofs.Passing.{passing_start}
use Rattle.equality.proofs.Walking.{record_here, following_fits, lots_here, rest_here, passed_here}
use Rattle.scan.proofs.Scanning.{taken_goes, taken_by_map, term_flag}
use Rattle.scan.proofs.Settling.{settled-met, settled-next}
use Rattle.scan.proofs.Conditions.{met_here, head_on, met_by_term, settled_by_term, met_withdrawn, taken_here}
use Rattle.scan.proofs.scan.Goals as goal

-- A condition that has a level is settled, so it is met.
pub conditions-preserved-then-levels-place-ne0 : goal.conditions-preserved-then-levels-place-ne0
conditions-preserved-then-levels-place-ne0 c =
    let lots = c.args.map.lots in
    let s = c.args.sheet.now in
    let inv = c.conditions.invariant in (
      met_here lots s c.requires.0 (omega (arith, c.if-m-c.false, c.requires.0.counted)) inv.0
          (settled-met lots (condition_at s _) (inv.1.each c.conditions.c c.if-levels-place-ne0.true)),
      inv.1,
      inv.2,
    )

pub head_at-head-requires : goal.head_at-head-requires
head_at-head-requires c = omega (arith, c.if-m-c.false, c.requires.0.counted, (sound c.args.sheet.now c.requires.0.accepted).header.whole)

pub terms-init : goal.terms-init
terms-init c =
    (passing_start _ _ _ (head_on c.args.map.lots c.args.sheet.now c.requires.0 (omega (arith, c.if-m-c.false, c.requires.0.counted)) c.conditions.invariant.0 c.head_at-head.ensures), refl)

-- ---- a term
pub overflow_add-following : goal.overflow_add-following
overflow_add-following c = omega (arith, following_fits c.requires.0 c.run.invariant.1 c.run.invariant.0)

pub term_at-t-requires : goal.term_at-t-requires
term_at-t-requires c = record_here c.requires.0 c.run.invariant.1 c.run.invariant.0

pub bounds-lots-a : goal.bounds-lots-a
bounds-lots-a c = omega (arith, lots_here c.requires.0 c.run.invariant.1 c.run.invariant.0 c.term_at-t.ensures)

pub bounds-lots-b : goal.bounds-lots-b
bounds-lots-b c = omega (arith, lots_here c.requires.0 c.run.invariant.1 c.run.invariant.0 c.term_at-t.ensures)

-- It is true: the condition is met, and settled where its lots share a class.
pub conditions-preserved-then-shared : goal.conditions-preserved-then-shared
conditions-preserved-then-shared c =
    let lots = c.args.map.lots in
    let s = c.args.sheet.now in
    let inv = c.conditions.invariant in
    let run = c.run.invariant in
    let settled = settled_by_term lots s c.requires.0 (omega (arith, c.if-m-c.false, c.requires.0.counted)) inv.0 c.head_at-head.ensures run.0 run.1 c.term_at-t.ensures c.if-shared-t.true (eq-eqb _ _ c.if-shared.true) in
    let rest =
    settled-next lots s _ c.conditions.levels c.run.levels c.args.level c.conditions.c (run.3 ∙ c.terms.invariant.1)
    (omega (arith, c.if-m-c.false, c.requires.0.counted, inv.1.sized)) c.if-levels-place-ne0.false settled inv.1 inv.2 in
    (met_by_term lots s c.requires.0 (omega (arith, c.if-m-c.false, c.requires.0.counted)) inv.0 c.head_at-head.ensures run.0 run.1 c.term_at-t.ensures c.if-shared-t.true, rest.0, rest.1)

pub conditions-preserved : goal.conditions-preserved
conditions-preserved c =
    let inv = c.conditions.invariant in
    let run = c.run.invariant in
    let unwritten = run.3 ∙ c.terms.invariant.1 in (
      met_by_term c.args.map.lots c.args.sheet.now c.requires.0 (omega (arith, c.if-m-c.false, c.requires.0.counted)) inv.0 c.head_at-head.ensures run.0 run.1 c.term_at-t.ensures c.if-shared-t.true,
      rw unwritten inv.1,
      rw unwritten inv.2,
    )

-- It is not, and the run ends at it,
pub terms-smaller : goal.terms-smaller
terms-smaller c = omega (arith, rest_here c.requires.0 c.run.invariant.1 c.run.invariant.0 c.term_at-t.ensures, c.run.invariant.2)

pub terms-preserved : goal.terms-preserved
terms-preserved c =
    let run = c.run.invariant in
    let t = c.term_at-t.result in
    (passed_here c.requires.0 run.1 run.0 c.term_at-t.ensures (term_flag (class_of c.args.map.lots) t.sign t.a.0 t.b.0 ∙ c.if-shared-t.false), run.3 ∙ c.terms.invariant.1)

-- or goes on.
pub run-smaller : goal.run-smaller
run-smaller c =
    let followed : c.term_at-t.result.next.0 ≡ c.run.at.0 + 1 = c.if-t-following.false in
    rw followed at (rest_here c.requires.0 c.run.invariant.1 c.run.invariant.0 c.term_at-t.ensures)

pub run-preserved : goal.run-preserved
run-preserved c =
    let run = c.run.invariant in
    let t = c.term_at-t.result in (
      rw c.if-t-following.false at
          (passed_here c.requires.0 run.1 run.0 c.term_at-t.ensures (term_flag (class_of c.args.map.lots) t.sign t.a.0 t.b.0 ∙ c.if-shared-t.false)),
      omega arith,
      omega (arith, run-smaller c, run.2),
      run.3,
    )

-- ---- past the last condition
pub returns-then-m-c : goal.returns-then-m-c
returns-then-m-c c =
    let inv = c.conditions.invariant in
    let past = none_found (taken_goes (class_of c.args.map.lots)) inv.0 (omega (arith, c.if-m-c.true, c.requires.0.counted)) in
    record {
      stands = λ limit lots ds says. sym (taken_by_map c.args.map.lots (conditions c.args.sheet.now) past ds says);
      within = tt;
      settled = inv.1;
      later = inv.2;
    }

-- ---- past the last term of a condition
pub conditions-preserved-then-head-eq0 : goal.conditions-preserved-then-head-eq0
conditions-preserved-then-head-eq0 c =
    let inv = c.conditions.invariant in
    let unwritten = c.terms.invariant.1 in (
      met_withdrawn c.args.map.lots c.args.sheet.now c.requires.0 (omega (arith, c.if-m-c.false, c.requires.0.counted)) inv.0 c.head_at-head.ensures c.terms.invariant.0 c.if-at-eq0.true c.if-head-eq0.true,
      rw unwritten inv.1,
      rw unwritten inv.2,
    )

pub returns-else-head-eq0 : goal.returns-else-head-eq0
returns-else-head-eq0 c =
    let lots' = c.args.map.lots in
    let s = c.args.sheet.now in
    let inv = c.conditions.invariant in
    let unwritten = c.terms.invariant.1 in
    record {
      stands = λ limit lots. taken_here lots' s c.requires.0 (omega (arith, c.if-m-c.false, c.requires.0.counted)) inv.0 c.head_at-head.ensures c.terms.invariant.0 c.if-at-eq0.true c.if-head-eq0.false;
      within = head_on lots' s c.requires.0 (omega (arith, c.if-m-c.false, c.requires.0.counted)) inv.0 c.head_at-head.ensures;
      settled = rw unwritten inv.1;
      later = rw unwritten inv.2;
    }
