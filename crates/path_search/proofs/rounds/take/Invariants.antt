use Rattle.std.proofs.Common.{◌≡◌, length}
use Rattle.path_search.specs.Kept.{IsKept}
use Rattle.path_search.proofs.Taking.{Taking}
use Rattle.path_search.proofs.rounds.take.Given as goal

abbrev pub invariant-loop-point : goal.invariant-loop-point
invariant-loop-point g l = record {
  kept : IsKept (g.W.Walk.item_of l.walk) (g.W.Walk.number_of l.walk) l.limit l.found;
  taking : Taking l.initial.found.points l.initial.fresh l.found.points l.fresh;
  went : l.found.went.items ≡ l.initial.found.went.items;
}

abbrev pub decreases-loop-point : goal.decreases-loop-point
decreases-loop-point g l = length l.fresh
