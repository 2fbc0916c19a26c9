use Prim.Native.Nat.{ℕ, ◌+◌, ◌<◌}
use mathlib.Core.Path.{◌≡◌, sym, ap, subst, ◌∙◌}
use native.Mathlib.Omega.{arith}
use borrow.Author.Tests.{eq-eqb, ne_eqb}
use lib.Dec.{eqb}
use Rattle.sheet.specs.declared.Term.{Term}
use Rattle.sheet.specs.Format.{record_count, vacant}
use Rattle.sheet.specs.Inner.{HasRecord}
use Rattle.sheet.proofs.Accepted.{sound, has_record}
use Rattle.sheet.proofs.Walks.{vacant_or_signed}
use Rattle.repack.proofs.Terms.{counted_start, vacant-next, filled_next, counted_end}
use Rattle.repack.proofs.count_terms.Goals.{then-t-ne0, else-t-ne0}
use Rattle.repack.proofs.count_terms.Goals as goal

pub loop-r-init : goal.loop-r-init
loop-r-init c =
    counted_start c.args.sheet.now c.requires.0.accepted

pub overflow_add-r : goal.overflow_add-r
overflow_add-r c =
    let below : c.loop-r.r < record_count c.args.sheet.now = omega (arith, c.loop-r-test.true, c.requires.1) in
    omega (arith, below, (sound c.args.sheet.now c.requires.0.accepted).header.records)

pub term_at-t-requires : goal.term_at-t-requires
term_at-t-requires c =
    let below : c.loop-r.r < record_count c.args.sheet.now = omega (arith, c.loop-r-test.true, c.requires.1) in
    let s = c.args.sheet.now in
    subst (λ (m : ℕ). HasRecord s m (c.loop-r.r + 1)) (sym c.requires.0.counted)
    (has_record (sound s c.requires.0.accepted).header (c.loop-r.r + 1) (omega arith) (omega (arith, below)))

pub overflow_add-terms : goal.overflow_add-terms
overflow_add-terms c =
    let below : c.loop-r.r < record_count c.args.sheet.now = omega (arith, c.loop-r-test.true, c.requires.1) in
    omega (arith, c.loop-r.invariant.few, below, (sound c.args.sheet.now c.requires.0.accepted).header.records)

pub loop-r-preserved : goal.loop-r-preserved
loop-r-preserved c =
    let s = c.args.sheet.now in
    let r = c.loop-r.r + 1 in
    let below : c.loop-r.r < record_count s = omega (arith, c.loop-r-test.true, c.requires.1) in
    let told : eqb c.term_at-t.result.sign 0 ≡ vacant s r = ap (λ (t : Term). eqb t.sign 0) c.term_at-t.ensures
    ∙ vacant_or_signed s r ((sound s c.requires.0.accepted).records r (omega arith) (omega (arith, below))) in
    elim c.if-t-ne0.branch [
      | then-t-ne0 w ↦ rw w.terms-is (filled_next c.loop-r.invariant below (sym told ∙ ne_eqb _ _ w.if-t-ne0.true))
      | else-t-ne0 w ↦ rw w.terms-is (vacant-next c.loop-r.invariant below (sym told ∙ eq-eqb _ _ w.if-t-ne0.false))
    ]

pub returns : goal.returns
returns c =
    counted_end c.loop-r.invariant (omega (arith, c.loop-r-test.false, c.requires.1))
