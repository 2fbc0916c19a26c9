use mathlib.Core.Path.{sym, ap, ◌∙◌}
use native.Mathlib.Omega.{arith}
use Rattle.buffers.proofs.Lists.{all_nth}
use Rattle.sheet.specs.Format.{head_at}
use Rattle.sheet.specs.Conditions.{terms_from}
use Rattle.repeats.specs.Repeats.{equal_conditions}
use Rattle.repeats.specs.Inner.{EntryOf}
use Rattle.repeats.proofs.Entries.{has_head, head_on_chain}
use Rattle.repeats.proofs.Seeking.{found, seeking_next, seeking_past, none_found}
use Rattle.repeats.proofs.kept.repeats_between.Goals as goal

-- It has another digest.
pub loop-entry-preserved-then-digest_in-condition : goal.loop-entry-preserved-then-digest_in-condition
loop-entry-preserved-then-digest_in-condition c =
    seeking_past c.loop-entry.invariant c.loop-entry-test.true c.requires.3
    (λ e. omega (arith, c.digest_in.ensures, c.if-digest_in-condition.true, e, c.requires.1.digest))

-- ---- the digest is the same: its chain is compared
pub head_at-at-requires : goal.head_at-at-requires
head_at-at-requires c =
    let entry = all_nth (EntryOf _) _ 0 c.requires.3 _ c.loop-entry-test.true in
    rw c.number_in.ensures (entry.low, has_head c.requires.2 entry)

pub equal_chains-requires : goal.equal_chains-requires
equal_chains-requires c =
    let entry = all_nth (EntryOf _) _ 0 c.requires.3 _ c.loop-entry-test.true in
    let head = c.head_at-at.ensures ∙ ap (head_at c.args.other.now) c.number_in.ensures in
    (c.requires.0, c.requires.1.on, c.requires.2, head_on_chain c.requires.2 entry _ head)

pub returns-then-equal_chains : goal.returns-then-equal_chains
returns-then-equal_chains c =
    let head = c.head_at-at.ensures ∙ ap (head_at c.args.other.now) c.number_in.ensures in
    let answer = c.equal_chains.ensures ∙ ap (λ r. equal_conditions (terms_from c.args.sheet.now c.args.condition.head.0) (terms_from c.args.other.now r)) head in
    sym (found c.loop-entry.invariant c.loop-entry-test.true (sym answer ∙ c.if-equal_chains.true))

pub loop-entry-preserved : goal.loop-entry-preserved
loop-entry-preserved c =
    let head = c.head_at-at.ensures ∙ ap (head_at c.args.other.now) c.number_in.ensures in
    let answer = c.equal_chains.ensures ∙ ap (λ r. equal_conditions (terms_from c.args.sheet.now c.args.condition.head.0) (terms_from c.args.other.now r)) head in
    seeking_next c.loop-entry.invariant c.loop-entry-test.true (sym answer ∙ c.if-equal_chains.false)

-- ---- past the last
pub returns : goal.returns
returns c = sym (none_found c.loop-entry.invariant (omega (arith, c.loop-entry-test.false)))
