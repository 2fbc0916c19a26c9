-- `classes::separate`: each entry below i is its own lot.
use mathlib.Core.List.{[]}
use mathlib.Core.Path.{sym, ◌∙◌}
use native.Mathlib.Omega.{arith}
use lib.Seq.{ext_get_or}
use Rattle.equality.specs.Node.{classes}
use Rattle.equality.proofs.Classes.{classes-length, no_class}
use Rattle.classes.proofs.separate.Goals as goal

pub returns : goal.returns
returns c =
    ext_get_or 0 c.loop-i.lots (classes []) (omega (arith, classes-length []))
    (λ k lt. c.loop-i.invariant k (omega arith) ∙ sym (no_class k (omega arith)))
