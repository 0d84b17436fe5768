use Rattle.path_flows.proofs.Noding.{FirstNodes}
use Rattle.path_flows.proofs.nodes.nodes.Given as goal

abbrev pub invariant-loop-at : goal.invariant-loop-at
invariant-loop-at l = FirstNodes l.paths.modules.now l.function l.counts l.frames l.nodes l.at
