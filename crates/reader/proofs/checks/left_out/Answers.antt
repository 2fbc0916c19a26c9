-- `reader::checks::left_out` meets its contract: a record that isn't flagged is left out unless it is vacant, which its sign tells.
use mathlib.Core.Bool.{Bool, true, false, not, ◌||◌, or-true, or-false}
use mathlib.Core.Path.{◌≡◌, sym, ap, ◌∙◌}
use lib.Dec.{eqb}
use borrow.Author.Tests.{eq-eqb, ne_eqb}
use Rattle.sheet.specs.declared.Term.{Term}
use Rattle.sheet.specs.Format.{vacant}
use Rattle.reader.proofs.checks.left_out.Goals as goal

flagged : (v : Bool) {b : Bool} → b ≡ true → false ≡ not (v || b)
flagged v e = sym (rw (e, or-true v))

unflagged : {v w b : Bool} → b ≡ false → w ≡ v → not w ≡ not (v || b)
unflagged {v} e same = rw (e, same, or-false v)

pub returns-then-flags-i-eq1 : goal.returns-then-flags-i-eq1
returns-then-flags-i-eq1 c =
    let a = c.args in
    flagged (vacant a.sheet.now a.r.0) (eq-eqb _ _ c.if-flags-i-eq1.true)

pub returns : goal.returns
returns c =
    unflagged (ne_eqb _ _ c.if-flags-i-eq1.false)
    (ap (λ (t : Term). eqb t.sign 0) c.term_at-t.ensures ∙ c.requires.0.signs c.args.r.0 c.requires.1 c.requires.2)
