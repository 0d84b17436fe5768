use Rattle.std.proofs.Common.{take}
use Rattle.liveness.specs.Backward.{Adds}
use Rattle.liveness.proofs.settling.note.Given as goal

abbrev pub invariant-loop-target : goal.invariant-loop-target
invariant-loop-target l = Adds l.node (take l.target-index l.next) l.initial.prev l.prev
