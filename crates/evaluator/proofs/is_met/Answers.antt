-- `evaluator::is_met`: the loop ends at the first true term. The invariant: every term that it has passed is false. What is left of the chain falls. A chain
-- with no term is a withdrawn condition's, which is met.
use mathlib.Core.Bool.{Bool, true, false, ◌||◌, or-true, or-false}
use mathlib.Core.List.{List}
use mathlib.Core.Path.{◌≡◌, sym, ap, ◌∙◌}
use Prim.Native.Nat.{ℕ, ◌≤◌}
use native.Mathlib.Omega.{arith}
use lib.Dec.{eqb}
use lib.ListN.{length}
use Rattle.sheet.specs.declared.Term as written
use Rattle.sheet.specs.Checks.{Accepted}
use Rattle.sheet.specs.Inner.{OnChain, term_record_at}
use Rattle.sheet.specs.Conditions.{term_of, term_at, terms_from}
use Rattle.sheet.proofs.Accepted.{has_record, sound}
use Rattle.sheet.proofs.ChainEnds.{rest_shorter}
use Rattle.equality.specs.Meaning.{any_term, holds, meets_condition}
use Rattle.equality.proofs.Withdrawn.{chain_some}
use Rattle.equality.proofs.Passing.{found, passing_next, ended}
use Rattle.evaluator.specs.Numbers.{number_at}
use Rattle.evaluator.proofs.FirstTrue.{before_first_true, not-withdrawn, no_further, first_true}
use Rattle.evaluator.proofs.Lots.{lots_numbered}
use Rattle.evaluator.proofs.is_met.Goals as goal
use Rattle.evaluator.proofs.is_met.Goals.{At-loop-at, Then-met, Else-met}

-- What the loop says of the terms, and whether there are any, decides the condition.
lifted : (f : ℕ → ℕ) (s : List ℕ) (head : ℕ) {b : Bool} → Accepted s → OnChain s head → any_term (holds f) (terms_from s head) ≡ b
    → (eqb head 0 || b) ≡ meets_condition f (terms_from s head)
lifted f s head ok on e = sym (chain_some (holds f) s ok head on.within ∙ rw e)

-- Whether a record's term is true is what `is_true` answers.
told : (f : ℕ → ℕ) (s : List ℕ) (r : ℕ) (t : written.Term) {b : Bool} → b ≡ holds f (term_of t.sign t.a.0 t.b.0) → t ≡ term_record_at s r
    → holds f (term_at s r) ≡ b
told f s r t e read = sym (e ∙ ap (λ (t : written.Term). holds f (term_of t.sign t.a.0 t.b.0)) read)

-- ---- where the loop stands, and where it ends

-- At each turn it has passed no more terms than stand before the first true one, so that the term which it reads is that one or stands before it.
reads_no_further : (c : At-loop-at) → length c.loop-at.invariant.0.passed ≤ before_first_true (number_at c.args.numbers.now) (terms_from c.args.sheet.now c.args.head.0)
reads_no_further c = no_further (number_at c.args.numbers.now) c.loop-at.invariant.0

-- A term that the loop passes is false;
passed_false : (c : Else-met) → holds (number_at c.args.numbers.now) (term_at c.args.sheet.now c.loop-at.at.0) ≡ false
passed_false c = told _ _ _ _ c.is_true-met.ensures c.term_at-t.ensures ∙ c.if-met.false

-- one that it leaves at is true.
left_at_true : (c : Then-met) → holds (number_at c.args.numbers.now) (term_at c.args.sheet.now c.loop-at.at.0) ≡ true
left_at_true c = told _ _ _ _ c.is_true-met.ensures c.term_at-t.ensures ∙ c.if-met.true

-- The term that the loop leaves at is the first true one: those before it are passed, and no other.
leaves_at_first_true : (c : Then-met) → length c.loop-at.invariant.0.passed ≡ before_first_true (number_at c.args.numbers.now) (terms_from c.args.sheet.now c.args.head.0)
leaves_at_first_true c =
    first_true (number_at c.args.numbers.now) c.loop-at.invariant.0 c.requires.0.sheet.accepted (omega (arith, c.loop-at-test.true)) (left_at_true c)

-- ---- the answers

pub term_at-t-requires : goal.term_at-t-requires
term_at-t-requires c =
    let bytes : List ℕ = c.args.sheet.now in
    let accepted : Accepted bytes = c.requires.0.sheet.accepted in
    -- The record is one of the sheet's.
    let record_number : 1 ≤ c.loop-at.at.0 = omega (arith, c.loop-at-test.true) in
    rw c.requires.0.sheet.counted
    (has_record (sound bytes accepted).header c.loop-at.at.0 record_number c.loop-at.invariant.0.on.within)

pub is_true-met-requires : goal.is_true-met-requires
is_true-met-requires c =
    let record_number : 1 ≤ c.loop-at.at.0 = omega (arith, c.loop-at-test.true) in
    rw c.term_at-t.ensures (lots_numbered _ _ _ c.requires.0 c.loop-at.at.0 record_number c.loop-at.invariant.0.on)

pub loop-at-smaller : goal.loop-at-smaller
loop-at-smaller c =
    let bytes : List ℕ = c.args.sheet.now in
    let accepted : Accepted bytes = c.requires.0.sheet.accepted in
    let record_number : 1 ≤ c.loop-at.at.0 = omega (arith, c.loop-at-test.true) in
    rw c.term_at-t.ensures (rest_shorter _ accepted _ record_number c.loop-at.invariant.0.on.within)

pub loop-at-preserved : goal.loop-at-preserved
loop-at-preserved c =
    let ok : Accepted c.args.sheet.now = c.requires.0.sheet.accepted in
    let record_number : 1 ≤ c.loop-at.at.0 = omega (arith, c.loop-at-test.true) in
    let passed : holds (number_at c.args.numbers.now) (term_at c.args.sheet.now c.loop-at.at.0) ≡ false =
    told _ _ _ _ c.is_true-met.ensures c.term_at-t.ensures ∙ c.if-met.false in (
      rw c.term_at-t.ensures (passing_next _ _ ok _ _ c.loop-at.invariant.0 record_number passed),
      c.if-met.false ∙ sym (not-withdrawn (number_at c.args.numbers.now) c.loop-at.invariant.0 ok record_number),
    )

-- At the chain's end no term is true, and the condition is met where it has none;
pub returns-after-loop-at : goal.returns-after-loop-at
returns-after-loop-at c =
    let bytes : List ℕ = c.args.sheet.now in
    let accepted : Accepted bytes = c.requires.0.sheet.accepted in
    c.loop-at.invariant.1
    ∙ sym (or-false (eqb c.args.head.0 0))
    ∙ lifted _ _ _ accepted c.requires.1 (ended _ _ accepted _ _ c.loop-at.invariant.0 c.loop-at-test.false)

-- at a true term it is met.
pub returns-then-met : goal.returns-then-met
returns-then-met c =
    let ok : Accepted c.args.sheet.now = c.requires.0.sheet.accepted in
    c.if-met.true
    ∙ sym (or-true (eqb c.args.head.0 0))
    ∙ lifted _ _ _ ok c.requires.1 (found _ _ ok _ _ c.loop-at.invariant.0 (omega (arith, c.loop-at-test.true)) (left_at_true c))
