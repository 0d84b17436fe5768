use Rattle.std.proofs.Common.{length}
use Rattle.liveness.specs.Settling.{work}
use Rattle.liveness.proofs.Settled.{PendingTo, Settling}
use Rattle.liveness.proofs.settling.settle.Given as goal

abbrev pub invariant-loop-node : goal.invariant-loop-node
invariant-loop-node l = PendingTo l.node (length l.column) l.pending.items

abbrev pub invariant-loop-node-2 : goal.invariant-loop-node-2
invariant-loop-node-2 l = Settling l.prev l.writes l.fn.column l.column l.pending.items

abbrev pub decreases-loop-node-2 : goal.decreases-loop-node-2
decreases-loop-node-2 l = work l.column l.pending.items
