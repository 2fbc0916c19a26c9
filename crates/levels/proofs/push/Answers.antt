-- `levels::push`: the level's row, joined by the split's lots or left, and the split on top of the path.
use Rattle.levels.proofs.Leveling.{top_level, top_room, walkable_push}
use Rattle.levels.proofs.push.Goals as goal

pub join-next-requires : goal.join-next-requires
join-next-requires c =
    let w = c.requires.0 in
    rw c.from-level.ensures (w.rows, top_level w, c.requires.3, c.requires.4, top_room w c.args.split.a.0 c.args.split.b.0 c.requires.3 c.requires.4)

pub returns-clause-walkable : goal.returns-clause-walkable
returns-clause-walkable c =
    let on_top = c.push in
    let next = c.join-next in
    walkable_push c.requires.0 c.requires.1 c.requires.2 c.args.split c.requires.3 c.requires.4
    on_top.new.path next.new.maps on_top.auto.path next.auto.maps next.result
    (rw c.from-level.ensures at next.ensures.level) (rw c.from-level.ensures at next.ensures.next) (rw c.from-level.ensures at next.ensures.others) on_top.result on_top.ensures.depth on_top.ensures.path
