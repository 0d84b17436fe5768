use Rattle.std.proofs.Common.{◌≡◌, ◌<◌, ℕ, ◌∙◌, subst, arith, take, length}
use Rattle.paths.specs.Search.{Round}
use Rattle.path_search.specs.Found.{AreFlags, Expands, IsCrowded}
use Rattle.path_search.proofs.Going.{crowd_reached, round_step}
use Rattle.path_search.proofs.Flags.{flags_next}
use Rattle.path_search.proofs.rounds.round.Goals as goal

pub returns-in-Err-clause-states : goal.returns-in-Err-clause-states
returns-in-Err-clause-states g c =
    let w = g.W.Walk.ways c.args.walk.now in
    let item = g.W.Walk.item_of c.args.walk.now in
    let xs = c.args.found.now.points in
    let ys = c.loop-at.found.points in
    λ e. crowd_reached w item xs ys c.args.done c.loop-at.at c.args.limit c.requires.level c.loop-at.invariant.round (omega (arith, c.loop-at-test.true, c.len-end.ensures))
    (subst (λ (n : ℕ). IsCrowded w item c.args.limit (take n ys) c.loop-at.at ys) c.len-end.ensures (c.expand.ensures.states (c.in-Err.is ∙ e)))

pub loop-at-preserved : goal.loop-at-preserved
loop-at-preserved g c =
    let w = g.W.Walk.ways c.args.walk.now in
    let item = g.W.Walk.item_of c.args.walk.now in
    let xs = c.args.found.now.points in
    let ys = c.loop-at.found.points in
    let low : c.loop-at.at < length xs = omega (arith, c.loop-at-test.true, c.len-end.ensures) in
    let expands : Expands w (take (length xs) ys) c.loop-at.at ys c.expand.new.found.points c.loop-at.found.went.items c.expand.new.found.went.items =
    subst (λ (n : ℕ). Expands w (take n ys) c.loop-at.at ys c.expand.new.found.points c.loop-at.found.went.items c.expand.new.found.went.items) c.len-end.ensures c.in-Ok.ensures.expands in
    record {
      kept = c.in-Ok.ensures.kept;
      round = round_step w item xs ys c.expand.new.found.points c.loop-at.at c.loop-at.found.went.items c.expand.new.found.went.items c.loop-at.invariant.round low expands;
      flags = flags_next w xs c.args.done c.requires.level c.requires.latest ys c.expand.new.found.points c.loop-at.at c.loop-at.found.went.items c.expand.new.found.went.items c.loop-at.invariant.round c.loop-at.auto.at low expands c.loop-at.invariant.flags;
    }

pub returns-clause-round : goal.returns-clause-round
returns-clause-round g c =
    let at_end : c.loop-at.at ≡ length c.args.found.now.points = omega (arith, c.loop-at-test.false, c.len-end.ensures, c.loop-at.auto.at-end) in
    subst (λ (n : ℕ). Round (g.W.Walk.ways c.args.walk.now) c.args.found.now.points n c.loop-at.found.points) at_end c.loop-at.invariant.round

pub returns-clause-flags : goal.returns-clause-flags
returns-clause-flags g c =
    let at_end : c.loop-at.at ≡ length c.args.found.now.points = omega (arith, c.loop-at-test.false, c.len-end.ensures, c.loop-at.auto.at-end) in
    subst (λ (n : ℕ). AreFlags (g.W.Walk.ways c.args.walk.now) c.loop-at.found.points n c.loop-at.found.went.items) at_end c.loop-at.invariant.flags
