-- `levels::turn`: the top split's level is the one above it.
use Rattle.levels.proofs.Leveling.{walkable_turn}
use Rattle.levels.proofs.turn.Goals as goal

pub returns-clause-walkable : goal.returns-clause-walkable
returns-clause-walkable c = λ maps w. walkable_turn w c.requires.0 c.turn.new.path c.turn.auto.path c.turn.ensures
