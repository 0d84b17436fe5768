-- What was added so far, with what is left.
use Rattle.std.proofs.Common.{◌≡◌, ◌++◌, drop, map}
use Rattle.path_flows.specs.FlowOf.{step_of}
use Rattle.path_flows.specs.Ways.{label_ways}
use Rattle.path_flows.proofs.ways.add_labels.Given as goal

abbrev pub invariant-loop-label : goal.invariant-loop-label
invariant-loop-label l =
    l.steps ++ map (step_of l.counts) (label_ways l.paths.function.now (drop l.label-index l.labels))
    ≡ l.fn.steps ++ map (step_of l.counts) (label_ways l.paths.function.now l.labels)
