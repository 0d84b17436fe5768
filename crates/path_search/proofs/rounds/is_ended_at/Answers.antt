use Rattle.path_search.specs.Found.{row_of}
use Rattle.path_search.proofs.Going.{none_meets}
use Rattle.path_search.proofs.rounds.is_ended_at.Goals as goal

pub returns-then-not-may_end : goal.returns-then-not-may_end
returns-then-not-may_end g c =
    none_meets (g.W.Walk.ways c.args.walk.now) (c.may_end.ensures c.if-not-may_end.true) c.args.points.now c.args.end (row_of c.args.rows.now (g.W.Walk.item_of c.args.walk.now c.args.to.now)) c.args.to.now
