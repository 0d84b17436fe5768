use Rattle.std.proofs.Common.{take}
use Rattle.liveness.specs.Settling.{Spread}
use Rattle.liveness.proofs.settling.spread.Given as goal

abbrev pub invariant-loop-node : goal.invariant-loop-node
invariant-loop-node l = Spread (take l.node-index l.from) l.word l.writes l.initial.column l.initial.pending.items l.column l.pending.items
