use Rattle.cycles.specs.Marked.{AreOwn}
use Rattle.cycles.proofs.finding.owns.Given as goal

abbrev pub invariant-loop-node : goal.invariant-loop-node
invariant-loop-node l = AreOwn l.node l.all
