use Rattle.std.proofs.Common.{◌≡◌, drop, max}
use Rattle.path_flows.specs.FlowOf.{most_need}
use Rattle.path_flows.proofs.ranges.bound.Given as goal

abbrev pub invariant-loop-item : goal.invariant-loop-item
invariant-loop-item l = max l.most (most_need (drop l.item-index l.items)) ≡ most_need l.items
