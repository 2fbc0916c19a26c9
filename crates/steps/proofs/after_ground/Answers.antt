-- `steps::after_ground`: the nearest split still in its same branch, its next, and its turn.
use Prim.Native.Nat.{ℕ}
use mathlib.Core.List.{List}
use mathlib.Core.Path.{sym, subst}
use Rattle.levels.specs.Levels.{Walkable}
use Rattle.levels.proofs.Leveling.{walkable_less}
use Rattle.steps.proofs.after_ground.Goals as goal

-- The path's numbers are as they were, so the path that is left is one.
pub returns-clause-path : goal.returns-clause-path
returns-clause-path c = λ maps w.
    let nearest = c.nearest-top in
    c.turn.ensures.walkable maps
    (subst (λ (l : List ℕ). Walkable l maps c.args.levels.now nearest.result) (sym nearest.ensures.numbers) (walkable_less w nearest.result nearest.ensures.within))
