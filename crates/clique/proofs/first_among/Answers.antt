-- `clique::first_among`: the classes are listed, and the list is looked at.
use Prim.Native.Nat.{◌-◌, ◌≤◌}
use mathlib.Core.Path.{sym, subst}
use native.Mathlib.Omega.{arith}
use Rattle.sheet.specs.Format.{most_lots}
use Rattle.limit.proofs.Left.{from_all}
use Rattle.clique.specs.Found.{Listed}
use Rattle.clique.proofs.first_among.Goals as goal

pub first_listed-requires : goal.first_listed-requires
first_listed-requires c = (
  subst Listed (sym c.list_classes-count.ensures.listed) (from_all c.args.lots.now (λ lot. lot ≤ most_lots) (c.args.end - c.args.from) c.args.from
      (λ lot low high own. omega (arith, c.requires.2))),
  c.requires.1,
)
