use Rattle.std.proofs.Common.{◌≡◌, drop}
use Rattle.liveness.specs.Whole.{lists_below}
use Rattle.liveness.proofs.below.are_below.Given as goal

abbrev pub invariant-loop-list : goal.invariant-loop-list
invariant-loop-list l = lists_below l.most (drop l.list-index l.lists) ≡ lists_below l.most l.lists
