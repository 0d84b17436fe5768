use Rattle.std.proofs.Common.{◌≡◌, ℕ, ◌≤◌, sym, subst, arith, length}
use Rattle.paths.specs.Search.{Level}
use Rattle.paths.proofs.Rounds.{level_next, level_done}
use Rattle.path_search.specs.Found.{AreFlags, AreLatest}
use Rattle.path_search.proofs.Flags.{flags_start, latest_next}
use Rattle.path_search.proofs.Going.{front_long}
use Rattle.path_search.proofs.rounds.spread.Goals as goal

pub loop-done-init : goal.loop-done-init
loop-done-init g c = record {
  kept = c.requires.kept;
  level = c.requires.level;
  latest = c.requires.latest;
  flags = flags_start (g.W.Walk.ways c.args.walk.now) c.args.found.now.points c.args.found.now.went.items c.requires.went;
  within = omega arith;
}

pub loop-done-preserved : goal.loop-done-preserved
loop-done-preserved g c =
    let w = g.W.Walk.ways c.args.walk.now in
    let item = g.W.Walk.item_of c.args.walk.now in
    let xs = c.loop-done.found.points in
    let ys = c.round.new.found.points in
    let r = c.in-Ok.ensures.round in
    let long : length xs ≤ length ys = front_long w item xs ys r.front in
    record {
      kept = c.in-Ok.ensures.kept;
      level = subst (λ (n : ℕ). Level w ys n) (sym c.len-end.ensures) (level_next w xs ys c.loop-done.done c.loop-done.invariant.level r);
      latest = subst (λ (n : ℕ). AreLatest w ys n) (sym c.len-end.ensures) (latest_next w xs c.loop-done.done c.loop-done.invariant.level c.loop-done.invariant.latest ys r c.in-Ok.ensures.kept.distinct);
      flags = subst (λ (n : ℕ). AreFlags w ys n c.round.new.found.went.items) (sym c.len-end.ensures) c.in-Ok.ensures.flags;
      within = omega (arith, long, c.len-end.ensures);
    }

pub returns-clause-reach : goal.returns-clause-reach
returns-clause-reach g c =
    let w = g.W.Walk.ways c.args.walk.now in
    let xs = c.loop-done.found.points in
    let at_end : c.loop-done.done ≡ length xs = omega arith in
    level_done w xs (subst (λ (n : ℕ). Level w xs n) at_end c.loop-done.invariant.level)

pub returns-clause-flags : goal.returns-clause-flags
returns-clause-flags g c =
    let at_end : c.loop-done.done ≡ length c.loop-done.found.points = omega arith in
    subst (λ (n : ℕ). AreFlags (g.W.Walk.ways c.args.walk.now) c.loop-done.found.points n c.loop-done.found.went.items) at_end c.loop-done.invariant.flags
