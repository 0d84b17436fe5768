use Rattle.std.proofs.Common.{◌≤◌, ◌-◌, ◌^◌, length}
use Rattle.paths.specs.Search.{Level}
use Rattle.path_search.specs.Found.{AreFlags, AreLatest}
use Rattle.path_search.specs.Kept.{IsKept}
use Rattle.path_search.proofs.rounds.spread.Given as goal

abbrev pub invariant-loop-done : goal.invariant-loop-done
invariant-loop-done g l = record {
  kept : IsKept (g.W.Walk.item_of l.walk) (g.W.Walk.number_of l.walk) l.limit l.found;
  level : Level (g.W.Walk.ways l.walk) l.found.points l.done;
  latest : AreLatest (g.W.Walk.ways l.walk) l.found.points l.done;
  flags : AreFlags (g.W.Walk.ways l.walk) l.found.points l.done l.found.went.items;
  within : l.done ≤ length l.found.points;
}

abbrev pub decreases-loop-done : goal.decreases-loop-done
decreases-loop-done g l = 2 ^ 64 - l.done
