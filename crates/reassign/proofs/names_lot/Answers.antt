use mathlib.Core.Bool.{Bool}
use mathlib.Core.List.{List}
use mathlib.Core.Path.{◌≡◌, sym, ap, ◌∙◌}
use Prim.Native.Nat.{ℕ, ◌≤◌}
use native.Mathlib.Omega.{arith}
use Rattle.sheet.specs.declared.Term as written
use Rattle.sheet.specs.Checks.{Accepted}
use Rattle.sheet.specs.Conditions.{term_of, term_at}
use Rattle.sheet.proofs.Accepted.{has_record, sound}
use Rattle.sheet.proofs.ChainEnds.{rest_shorter}
use Rattle.equality.proofs.Passing.{found, passing_next, ended}
use Rattle.reassignment.specs.Reassign.{term_names}
use Rattle.reassign.proofs.names_lot.Goals as goal

pub term_at-t-requires : goal.term_at-t-requires
term_at-t-requires c =
    let bytes : List ℕ = c.args.sheet.now in
    let accepted : Accepted (bytes) = c.requires.0.accepted in
    -- The record is one of the sheet's.
    let record_number : 1 ≤ c.loop-at.at.0 = omega (arith, c.loop-at-test.true) in
    rw c.requires.0.counted
    (has_record (sound (bytes) (accepted)).header c.loop-at.at.0 (record_number) c.loop-at.invariant.on.within)

pub returns-then-term_names : goal.returns-then-term_names
returns-then-term_names c =
    let bytes : List ℕ = c.args.sheet.now in
    let accepted : Accepted (bytes) = c.requires.0.accepted in
    let record_number : 1 ≤ c.loop-at.at.0 = omega (arith, c.loop-at-test.true) in
    let named : Bool = term_names c.args.lot.0 (term_at (bytes) c.loop-at.at.0) in
    -- Whether the record's term names the lot is what `term_names` answers.
    let answer : named ≡ c.term_names.result = sym
    (c.term_names.ensures
    ∙ ap (λ (t : written.Term). term_names c.args.lot.0 (term_of t.sign t.a.0 t.b.0)) c.term_at-t.ensures) in
    sym (found _ _ (accepted) _ _ c.loop-at.invariant (record_number) (answer ∙ c.if-term_names.true))

pub loop-at-smaller : goal.loop-at-smaller
loop-at-smaller c =
    let bytes : List ℕ = c.args.sheet.now in
    let accepted : Accepted (bytes) = c.requires.0.accepted in
    let record_number : 1 ≤ c.loop-at.at.0 = omega (arith, c.loop-at-test.true) in
    rw c.term_at-t.ensures (rest_shorter _ (accepted) _ (record_number) c.loop-at.invariant.on.within)

pub loop-at-preserved : goal.loop-at-preserved
loop-at-preserved c =
    let bytes : List ℕ = c.args.sheet.now in
    let accepted : Accepted (bytes) = c.requires.0.accepted in
    let record_number : 1 ≤ c.loop-at.at.0 = omega (arith, c.loop-at-test.true) in
    let named : Bool = term_names c.args.lot.0 (term_at (bytes) c.loop-at.at.0) in
    let answer : named ≡ c.term_names.result = sym
    (c.term_names.ensures
    ∙ ap (λ (t : written.Term). term_names c.args.lot.0 (term_of t.sign t.a.0 t.b.0)) c.term_at-t.ensures) in
    rw c.term_at-t.ensures (passing_next _ _ (accepted) _ _ c.loop-at.invariant (record_number) (answer ∙ c.if-term_names.false))

-- ---- the chain's end
pub returns : goal.returns
returns c =
    let bytes : List ℕ = c.args.sheet.now in
    let accepted : Accepted (bytes) = c.requires.0.accepted in
    sym (ended _ _ (accepted) _ _ c.loop-at.invariant c.loop-at-test.false)
