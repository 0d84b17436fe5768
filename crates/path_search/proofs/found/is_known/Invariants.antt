use Rattle.path_search.specs.Kept.{bucket_in}
use Rattle.path_search.proofs.Chains.{Walking}
use Rattle.path_search.proofs.found.is_known.Given as goal

abbrev pub invariant-loop-at : goal.invariant-loop-at
invariant-loop-at g l = Walking (bucket_in (g.W.Walk.number_of l.walk) l.found.buckets.items) l.found.points l.new l.at

abbrev pub decreases-loop-at : goal.decreases-loop-at
decreases-loop-at g l = l.at
