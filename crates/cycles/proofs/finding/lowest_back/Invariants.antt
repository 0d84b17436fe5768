use Rattle.std.proofs.Common.{ℕ, ◌<◌}
use Rattle.cycles.specs.Cycles.{OnCycle}
use Rattle.cycles.proofs.finding.lowest_back.Given as goal

abbrev pub invariant-loop-node : goal.invariant-loop-node
invariant-loop-node l = (k : ℕ) → k < l.node → OnCycle l.graph.next k → ⊥
