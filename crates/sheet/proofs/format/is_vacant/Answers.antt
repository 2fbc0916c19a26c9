-- `sheet::format::is_vacant` meets its contract: of the five fields the first that isn't zero decides, or else the last one.
use Prim.Native.Nat.{ℕ}
use mathlib.Core.Bool.{Bool, true, false}
use mathlib.Core.List.{List}
use mathlib.Core.Path.{◌≡◌, refl, sym, ap, ◌∙◌}
use lib.Dec.{eqb}
use borrow.Author.Tests.{eqb-true, eqb-false}
use Rattle.sheet.specs.declared.Term.{Term}
use Rattle.sheet.specs.Format.{sign_at, spare_at, first_lot_at, second_lot_at, next_at, vacant}
use Rattle.sheet.proofs.Vacant.{Blank, not-vacant, blank_vacant}
use Rattle.sheet.proofs.format.is_vacant.Goals as goal

-- Where the others are zero, the last decides.
last_field : (s : List ℕ) (r : ℕ) → (sign_at s r ≡ 0) × (spare_at s r ≡ 0) × (first_lot_at s r ≡ 0) × (second_lot_at s r ≡ 0)
    → {next : ℕ} → next ≡ next_at s r → eqb next 0 ≡ vacant s r
last_field s r (sign, spare, first, second) {next} e = go (eqb next 0) refl
  where
    go : (b : Bool) → eqb next 0 ≡ b → b ≡ vacant s r
    go true q =
        sym (blank_vacant s r (record { sign = sign; spare = spare; first = first; second = second; next = sym e ∙ eqb-true next 0 q }))
    go false q = sym (not-vacant s r (λ b. eqb-false next 0 q (e ∙ b.next)))

pub returns-then-t-ne0 : goal.returns-then-t-ne0
returns-then-t-ne0 c =
    let other : let a = c.args in (Blank a.sheet.now a.r.0 → ⊥) → false ≡ vacant a.sheet.now a.r.0 = λ no-blank. let a = c.args in sym (not-vacant a.sheet.now a.r.0 no-blank) in
    other (λ b. c.if-t-ne0.true (ap (λ (t : Term). t.sign) c.term_at-t.ensures ∙ b.sign))

pub returns-then-spare_at-ne0 : goal.returns-then-spare_at-ne0
returns-then-spare_at-ne0 c =
    let other : let a = c.args in (Blank a.sheet.now a.r.0 → ⊥) → false ≡ vacant a.sheet.now a.r.0 = λ no-blank. let a = c.args in sym (not-vacant a.sheet.now a.r.0 no-blank) in
    other (λ b. c.if-spare_at-ne0.true (c.spare_at.ensures ∙ b.spare))

pub returns-then-t-ne0-2 : goal.returns-then-t-ne0-2
returns-then-t-ne0-2 c =
    let other : let a = c.args in (Blank a.sheet.now a.r.0 → ⊥) → false ≡ vacant a.sheet.now a.r.0 = λ no-blank. let a = c.args in sym (not-vacant a.sheet.now a.r.0 no-blank) in
    other (λ b. c.if-t-ne0-2.true (ap (λ (t : Term). t.a.0) c.term_at-t.ensures ∙ b.first))

pub returns-then-t-ne0-3 : goal.returns-then-t-ne0-3
returns-then-t-ne0-3 c =
    let other : let a = c.args in (Blank a.sheet.now a.r.0 → ⊥) → false ≡ vacant a.sheet.now a.r.0 = λ no-blank. let a = c.args in sym (not-vacant a.sheet.now a.r.0 no-blank) in
    other (λ b. c.if-t-ne0-3.true (ap (λ (t : Term). t.b.0) c.term_at-t.ensures ∙ b.second))

pub returns : goal.returns
returns c =
    let s : List ℕ = c.args.sheet.now in
    let r : ℕ = c.args.r.0 in
    let e = c.term_at-t.ensures in
    last_field s r (
      sym (ap (λ (t : Term). t.sign) e) ∙ c.if-t-ne0.false,
      sym c.spare_at.ensures ∙ c.if-spare_at-ne0.false,
      sym (ap (λ (t : Term). t.a.0) e) ∙ c.if-t-ne0-2.false,
      sym (ap (λ (t : Term). t.b.0) e) ∙ c.if-t-ne0-3.false,
    ) (ap (λ (t : Term). t.next.0) e)
