use Rattle.std.proofs.Common.{◌≡◌, ◌++◌, map, drop}
use Rattle.data_flow.specs.Flow.{cut, land}
use Rattle.data_flow.proofs.cut.add.Given as goal

abbrev pub invariant-loop-step : goal.invariant-loop-step
invariant-loop-step l = l.to ++ map (cut l.needs) (map (land l.puts l.from) (drop l.step-index l.steps)) ≡ l.initial.to ++ map (cut l.needs) (map (land l.puts l.from) l.steps)
