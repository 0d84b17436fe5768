use Rattle.std.proofs.Common.{◌≡◌, drop, None}
use Rattle.paths.specs.Search.{least_of}
use Rattle.path_search.specs.Found.{is_bad}
use Rattle.path_search.proofs.rounds.lowest.Given as goal

abbrev pub invariant-loop-point : goal.invariant-loop-point
invariant-loop-point g l =
    let bad = is_bad (g.W.Walk.ways l.walk) (g.W.Walk.item_of l.walk) l.points l.rows in
    least_of bad (g.W.Walk.item_of l.walk) l.best (drop l.point-index l.points) ≡ least_of bad (g.W.Walk.item_of l.walk) None l.points
