use Prim.Native.Nat.{◌<◌}
use mathlib.Core.Path.{sym, ap₂, subst, ◌∙◌}
use native.Mathlib.Omega.{arith}
use lib.ListN.{length}
use Rattle.sheet.specs.declared.Term.{Term}
use Rattle.sheet.specs.Conditions.{records_from}
use Rattle.sheet.proofs.Accepted.{has_record, sound}
use Rattle.sheet.proofs.ChainEnds.{rest_shorter}
use Rattle.repeats.specs.Inner.{equal_fields}
use Rattle.repeats.proofs.Comparing.{first_over, second_over, terms_differ, comparing_next}
use Rattle.repeats.proofs.chains.equal_chains.Goals as goal

-- The second chain alone is over.
pub returns-then-q-eq0 : goal.returns-then-q-eq0
returns-then-q-eq0 c =
    sym (second_over c.loop-p.invariant c.requires.0.accepted c.requires.2.accepted (omega arith) c.if-q-eq0.true)

pub term_at-t-requires : goal.term_at-t-requires
term_at-t-requires c =
    let can = c.requires.0 in
    rw can.counted (has_record (sound c.args.first.now can.accepted).header c.loop-p.p.0 (omega arith) c.loop-p.invariant.first.within)

pub term_at-u-requires : goal.term_at-u-requires
term_at-u-requires c =
    let can = c.requires.2 in
    rw can.counted (has_record (sound c.args.second.now can.accepted).header c.loop-p.q.0 (omega arith) c.loop-p.invariant.second.within)

-- The terms differ.
pub returns-then-not-equal_terms : goal.returns-then-not-equal_terms
returns-then-not-equal_terms c =
    let answer = sym (c.equal_terms.ensures ∙ ap₂ equal_fields c.term_at-t.ensures c.term_at-u.ensures) in
    sym
    (terms_differ c.loop-p.invariant c.requires.0.accepted c.requires.2.accepted (omega arith) (omega arith)
    (answer ∙ c.if-not-equal_terms.true))

-- They are equal.
pub loop-p-smaller : goal.loop-p-smaller
loop-p-smaller c =
    let s = c.args.first.now in
    subst (λ (t : Term). length (records_from s t.next.0) < length (records_from s c.loop-p.p.0)) (sym c.term_at-t.ensures)
    (rest_shorter s c.requires.0.accepted c.loop-p.p.0 (omega arith) c.loop-p.invariant.first.within)

pub loop-p-preserved : goal.loop-p-preserved
loop-p-preserved c =
    let answer = sym (c.equal_terms.ensures ∙ ap₂ equal_fields c.term_at-t.ensures c.term_at-u.ensures) in
    rw (c.term_at-t.ensures, c.term_at-u.ensures)
    (comparing_next c.loop-p.invariant c.requires.0.accepted c.requires.2.accepted (omega arith) (omega arith)
    (answer ∙ c.if-not-equal_terms.false))

-- The first chain is over.
pub returns : goal.returns
returns c =
    sym (first_over c.loop-p.invariant c.requires.0.accepted c.requires.2.accepted c.loop-p-test.false)
