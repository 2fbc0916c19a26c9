use Prim.Native.Nat.{ℕ, ◌<◌}
use mathlib.Core.Path.{sym, subst, ◌∙◌}
use native.Mathlib.Omega.{arith}
use Rattle.sheet.specs.Conditions.{condition_at}
use Rattle.sheet.proofs.Accepted.{sound}
use Rattle.sheet.proofs.Conditions.{terms-length}
use Rattle.repeats.specs.Inner.{digest_limit}
use Rattle.repeats.proofs.Digesting.{digest-small}
use Rattle.repeats.proofs.Gathering.{gathering_start, sought_in, gathering_past, terms-few, one_more, gathered}
use Rattle.repeats.proofs.kept.gather.Goals as goal

pub loop-c-init : goal.loop-c-init
loop-c-init c = gathering_start _ _ _ _

pub left_out-requires : goal.left_out-requires
left_out-requires c =
    let l = c.loop-c.invariant in
    (c.requires.0, c.requires.1, sought_in _ _ _ _ l (omega (arith, c.requires.1.counted)) c.condition_at-condition.ensures c.requires.1.accepted, c.requires.2, l.entered)

-- ---- it is left out
pub loop-c-preserved-then-left_out : goal.loop-c-preserved-then-left_out
loop-c-preserved-then-left_out c =
    gathering_past _ _ _ _ c.loop-c.invariant (omega (arith, c.requires.1.counted)) c.condition_at-condition.ensures (sym c.left_out.ensures ∙ c.if-left_out.true)

pub returns-then-left_out : goal.returns-then-left_out
returns-then-left_out c =
    gathered _ _ _ _
    (gathering_past _ _ _ _ c.loop-c.invariant (omega (arith, c.requires.1.counted)) c.condition_at-condition.ensures (sym c.left_out.ensures ∙ c.if-left_out.true))
    (omega (arith, c.requires.1.counted))

-- ---- it stays
pub entry_of-requires : goal.entry_of-requires
entry_of-requires c =
    let s = c.args.second.now in (
      omega (arith, c.loop-c-test.true, c.requires.1.counted, (sound s c.requires.1.accepted).header.conditions),
      subst (λ (d : ℕ). d < digest_limit) (sym c.condition_at-condition.ensures.digest) (digest-small (condition_at s c.loop-c.c)),
    )

pub overflow_add-terms : goal.overflow_add-terms
overflow_add-terms c =
    let t = c.args.second.now in
    let ok = c.requires.1.accepted in
    omega (arith, c.condition_at-condition.ensures.terms, terms-few _ _ _ _ c.loop-c.invariant (omega (arith, c.requires.1.counted)), terms-length t ok, (sound t ok).header.records)

pub loop-c-preserved : goal.loop-c-preserved
loop-c-preserved c =
    let l = c.loop-c.invariant in
    one_more _ _ _ _ l (omega (arith, c.requires.1.counted)) c.condition_at-condition.ensures (sym c.left_out.ensures ∙ c.if-left_out.false) (omega (arith, l.few, l.sized, c.requires.3)) _ c.entry_of.ensures

-- ---- past the last
pub returns-else-left_out : goal.returns-else-left_out
returns-else-left_out c =
    let l = c.loop-c.invariant in
    gathered _ _ _ _
    (one_more _ _ _ _ l (omega (arith, c.requires.1.counted)) c.condition_at-condition.ensures (sym c.left_out.ensures ∙ c.if-left_out.false) (omega (arith, l.few, l.sized, c.requires.3)) _ c.entry_of.ensures)
    (omega (arith, c.requires.1.counted))

pub returns : goal.returns
returns c =
    gathered _ _ _ _ c.loop-c.invariant
    (omega (arith, c.requires.1.counted))
