use Rattle.cycles.specs.Marked.{AreNone}
use Rattle.cycles.proofs.finding.nones.Given as goal

abbrev pub invariant-loop-node : goal.invariant-loop-node
invariant-loop-node l = AreNone l.node l.all
