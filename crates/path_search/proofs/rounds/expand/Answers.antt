use Rattle.std.proofs.Common.{◌∙◌, take}
use Rattle.path_search.proofs.Going.{crowded_of, expands_of}
use Rattle.path_search.proofs.rounds.expand.Goals as goal

pub take-requires : goal.take-requires
take-requires g c =
    let kept = c.requires.kept in
    record { listed = kept.listed; distinct = kept.distinct; some = kept.some; chained = kept.chained; counted = kept.counted }

pub returns-in-Ok-take-clause-expands : goal.returns-in-Ok-take-clause-expands
returns-in-Ok-take-clause-expands g c =
    let xs = c.args.found.now.points in
    expands_of (g.W.Walk.ways c.args.walk.now) (take c.args.end xs) c.args.at xs c.in-Ok.ahead.1 c.in-Ok.ahead.0 c.in-Ok.ensures c.take.new.found.points c.args.found.now.went.items c.take.new.found.went.items
    c.in-Ok-take.ensures.adds (c.in-Ok-take.ensures.went ∙ c.in-Ok-push.ensures.items)

pub returns-clause-states : goal.returns-clause-states
returns-clause-states g c =
    let xs = c.args.found.now.points in
    λ e. crowded_of (g.W.Walk.ways c.args.walk.now) (take c.args.end xs) c.args.at xs c.in-Ok.ahead.1 c.in-Ok.ahead.0 c.in-Ok.ensures (g.W.Walk.item_of c.args.walk.now) c.args.limit
    (c.take.ensures.states (c.in-Err-take.is ∙ e))
