use Rattle.path_search.specs.Steps.{AreNoted}
use Rattle.path_search.proofs.noting.noted.Given as goal

abbrev pub invariant-loop-at : goal.invariant-loop-at
invariant-loop-at g l = AreNoted (g.W.Walk.ways l.walk) (g.W.Walk.item_of l.walk) l.points l.went l.at l.next.items
