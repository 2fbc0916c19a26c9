-- `checker::walk`: each turn is at one of the list's records, and what the step comes to is what the walk does.
use Prim.Native.Nat.{◌+◌, ◌/◌}
use mathlib.Core.Path.{◌≡◌, refl, sym, ◌∙◌}
use native.Mathlib.Omega.{arith}
use lib.ListN.{length}
use Rattle.std.specs.Prelude.{Some, None, Ok, Err}
use Rattle.limit.specs.Scan.{limit_in}
use Rattle.sheet.proofs.Refusals.{passed_on_is}
use Rattle.checker.proofs.Walking.{walking_start, walking_step, walking_on, walking_end}
use Rattle.checker.proofs.walk.Goals as goal

pub loop-before-init : goal.loop-before-init
loop-before-init c =
    (walking_start (limit_in c.args.limit) c.args.sheet.now c.args.list.now c.args.path.now, c.requires.2, refl, refl, refl)

pub returns-in_err-step : goal.returns-in_err-step
returns-in_err-step c =
    let l = c.loop-before in
    rw (passed_on_is c.from_residual.ensures.1)
    (sym
    (walking_step (limit_in c.args.limit) c.args.sheet.now c.args.list.now l.path c.record_step.new.path l.depth (l.before + 1) l.invariant.0 (omega arith) (omega (arith, c))
    (Err c.in_err-step.field-0.0) c.in_err-step.ensures.walk))

pub returns-in_default : goal.returns-in_default
returns-in_default c =
    let l = c.loop-before in
    sym
    (walking_step (limit_in c.args.limit) c.args.sheet.now c.args.list.now l.path c.record_step.new.path l.depth (l.before + 1) l.invariant.0 (omega arith) (omega (arith, c))
    (Ok None) (rw c.in_default.is at c.in_ok-step.ensures.walk))

pub loop-before-preserved : goal.loop-before-preserved
loop-before-preserved c =
    let l = c.loop-before in
    let step = c.record_step in
    let stepped =
    walking_step (limit_in c.args.limit) c.args.sheet.now c.args.list.now l.path step.new.path l.depth (l.before + 1) l.invariant.0 (omega arith) (omega (arith, c))
    (Ok (Some c.in-Some.splits)) (rw c.in-Some.is at c.in_ok-step.ensures.walk) in (
      walking_on (limit_in c.args.limit) c.args.sheet.now c.args.list.now step.new.path c.in-Some.splits (l.before + 1) stepped,
      rw c.in-Some.is at c.in_ok-step.ensures.path,
      step.auto.table ∙ l.invariant.2,
      step.auto.path ∙ l.invariant.3,
      step.auto.levels ∙ l.invariant.4,
    )

pub returns : goal.returns
returns c =
    let l = c.loop-before in
    let all : length c.args.list.now / 8 ≡ l.before = omega (arith, c) in
    rw all
    (sym (walking_end (limit_in c.args.limit) c.args.sheet.now c.args.list.now l.path l.depth (l.before + 1) l.invariant.0 (omega (arith, c))))
