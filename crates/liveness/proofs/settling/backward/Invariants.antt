use Rattle.std.proofs.Common.{◌≡◌, replicate, []}
use Rattle.liveness.proofs.Edges.{BackwardTo}
use Rattle.liveness.proofs.settling.backward.Given as goal

abbrev pub invariant-loop : goal.invariant-loop
invariant-loop l = l.prev.items ≡ replicate l.counter []

abbrev pub invariant-loop-node : goal.invariant-loop-node
invariant-loop-node l = BackwardTo l.node l.next l.prev.items
