use Rattle.paths.specs.Search.{Round}
use Rattle.path_search.specs.Found.{AreFlags}
use Rattle.path_search.specs.Kept.{IsKept}
use Rattle.path_search.proofs.rounds.round.Given as goal

abbrev pub invariant-loop-at : goal.invariant-loop-at
invariant-loop-at g l = record {
  kept : IsKept (g.W.Walk.item_of l.walk) (g.W.Walk.number_of l.walk) l.limit l.found;
  round : Round (g.W.Walk.ways l.walk) l.initial.found.points l.at l.found.points;
  flags : AreFlags (g.W.Walk.ways l.walk) l.found.points l.at l.found.went.items;
}
