-- `reader::once::walk_chain` meets its contract. The loop's invariant: the walk, whatever its flags stood for at first, is what it is
-- from the present record on, with the present flags. The measure is how many records are not flagged: each turn flags one more.
use mathlib.Core.Path.{◌≡◌, sym, ap, ◌∙◌}
use native.Mathlib.Omega.{arith}
use lib.Dec.{eqb}
use borrow.Author.Tests.{eq-eqb, ne_eqb}
use Rattle.sheet.specs.Format.{vacant}
use Rattle.sheet.specs.declared.Term.{Term}
use Rattle.reader.proofs.WalkLoops.{begun, ended, nothing, hit, fewer, more}
use Rattle.reader.proofs.once.walk_chain.Goals as goal

pub loop-at-init : goal.loop-at-init
loop-at-init c =
    begun c.args.sheet.now c.args.flags.now c.args.head.0 c.requires.0.flaggable.room c.requires.1

pub returns-then-t-eq0 : goal.returns-then-t-eq0
returns-then-t-eq0 c =
    let told : eqb c.term_at-t.result.sign 0 ≡ vacant c.args.sheet.now c.loop-at.at.0 = ap (λ (t : Term). eqb t.sign 0) c.term_at-t.ensures
    ∙ c.requires.0.flaggable.signs c.loop-at.at.0 (omega arith) c.loop-at.invariant.within in
    nothing c.loop-at.invariant c.loop-at-test.true (sym (told) ∙ eq-eqb _ _ c.if-t-eq0.true)

pub returns-then-flags-i-eq1 : goal.returns-then-flags-i-eq1
returns-then-flags-i-eq1 c =
    let told : eqb c.term_at-t.result.sign 0 ≡ vacant c.args.sheet.now c.loop-at.at.0 = ap (λ (t : Term). eqb t.sign 0) c.term_at-t.ensures
    ∙ c.requires.0.flaggable.signs c.loop-at.at.0 (omega arith) c.loop-at.invariant.within in
    hit c.loop-at.invariant c.loop-at-test.true (sym (told) ∙ ne_eqb _ _ c.if-t-eq0.false) c.if-flags-i-eq1.true

pub loop-at-smaller : goal.loop-at-smaller
loop-at-smaller c =
    fewer c.loop-at.invariant c.loop-at-test.true c.if-flags-i-eq1.false

pub loop-at-preserved : goal.loop-at-preserved
loop-at-preserved c =
    let told : eqb c.term_at-t.result.sign 0 ≡ vacant c.args.sheet.now c.loop-at.at.0 = ap (λ (t : Term). eqb t.sign 0) c.term_at-t.ensures
    ∙ c.requires.0.flaggable.signs c.loop-at.at.0 (omega arith) c.loop-at.invariant.within in
    let next = c.requires.0.nexts c.loop-at.at.0 (omega arith) c.loop-at.invariant.within in
    rw c.term_at-t.ensures
    (more c.loop-at.invariant c.loop-at-test.true c.if-flags-i-eq1.false (sym (told) ∙ ne_eqb _ _ c.if-t-eq0.false) next)

pub returns : goal.returns
returns c =
    ended c.loop-at.invariant c.loop-at-test.false
