use Rattle.std.proofs.Common.{◌∙◌}
use Rattle.path_search.proofs.Taking.{taking_next, taking_done, taking_crowds}
use Rattle.path_search.proofs.rounds.take.Goals as goal

pub loop-point-preserved : goal.loop-point-preserved
loop-point-preserved g c = record {
  kept = c.in-Ok.ensures.kept;
  taking = taking_next c.args.found.now.points c.args.fresh.now c.loop-point.found.points c.add.new.found.points c.pop.new.self c.in-Some.point
      (rw (← c.in-Some.ensures) c.loop-point.invariant.taking) c.in-Ok.ensures.adds;
  went = c.in-Ok.ensures.went ∙ c.loop-point.invariant.went;
}

pub returns-in-Err-clause-states : goal.returns-in-Err-clause-states
returns-in-Err-clause-states g c = λ e. taking_crowds (g.W.Walk.item_of c.args.walk.now) c.args.limit c.args.found.now.points c.args.fresh.now c.loop-point.found.points c.pop.new.self c.in-Some.point
    (rw (← c.in-Some.ensures) c.loop-point.invariant.taking) (c.add.ensures.states (c.in-Err.is ∙ e))

pub returns-clause-adds : goal.returns-clause-adds
returns-clause-adds g c = taking_done c.args.found.now.points c.args.fresh.now c.loop-point.found.points (rw (← c.in_default.ensures.0) c.loop-point.invariant.taking)
