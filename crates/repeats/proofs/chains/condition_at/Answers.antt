use Prim.Native.Nat.{◌<◌}
use mathlib.Core.Path.{sym, ap, subst, ◌∙◌}
use native.Mathlib.Omega.{arith}
use lib.ListN.{length}
use Rattle.sheet.specs.declared.Term.{Term}
use Rattle.sheet.specs.Conditions.{terms_from, records_from}
use Rattle.sheet.specs.Inner.{OnChain}
use Rattle.sheet.proofs.Accepted.{has_record, sound}
use Rattle.sheet.proofs.ChainEnds.{head-on, rest_shorter}
use Rattle.repeats.specs.Inner.{digest_of}
use Rattle.repeats.proofs.Digesting.{digesting_start, small-fields, one_more, digesting_next, digest-whole, terms-whole}
use Rattle.repeats.proofs.chains.condition_at.Goals as goal

pub head_at-head-requires : goal.head_at-head-requires
head_at-head-requires c =
    let header = (sound c.args.sheet.now c.requires.0.accepted).header in
    (c.requires.1, omega (arith, c.requires.2, header.whole))

pub loop-at-init : goal.loop-at-init
loop-at-init c =
    let s = c.args.sheet.now in
    digesting_start s _ (subst (OnChain s) (sym c.head_at-head.ensures) (head-on s c.requires.0.accepted c.args.c.0 c.requires.1 c.requires.2))

pub term_at-t-requires : goal.term_at-t-requires
term_at-t-requires c =
    let can = c.requires.0 in
    rw can.counted (has_record (sound c.args.sheet.now can.accepted).header c.loop-at.at.0 (omega arith) c.loop-at.invariant.on.within)

pub digest_with-digest-requires : goal.digest_with-digest-requires
digest_with-digest-requires c =
    let small = small-fields c.loop-at.invariant c.requires.0.accepted (omega arith) in
    rw c.term_at-t.ensures (c.loop-at.invariant.small, small.sign, small.first, small.second)

pub overflow_add-terms : goal.overflow_add-terms
overflow_add-terms c =
    omega (arith, one_more c.loop-at.invariant c.requires.0.accepted (omega arith))

pub loop-at-smaller : goal.loop-at-smaller
loop-at-smaller c =
    let s = c.args.sheet.now in
    let r = c.loop-at.at.0 in
    subst (λ (t : Term). length (records_from s t.next.0) < length (records_from s r)) (sym c.term_at-t.ensures)
    (rest_shorter s c.requires.0.accepted r (omega arith) c.loop-at.invariant.on.within)

pub loop-at-preserved : goal.loop-at-preserved
loop-at-preserved c =
    rw (c.digest_with-digest.ensures, c.term_at-t.ensures) (digesting_next c.loop-at.invariant c.requires.0.accepted (omega arith))

-- ---- past the last term
pub returns : goal.returns
returns c =
    let s = c.args.sheet.now in
    let head = c.head_at-head.ensures in
    record {
      head = head;
      digest = digest-whole c.loop-at.invariant c.loop-at-test.false ∙ ap (λ r. digest_of (terms_from s r)) head;
      terms = terms-whole c.loop-at.invariant c.loop-at-test.false ∙ ap (λ r. length (terms_from s r)) head;
    }
