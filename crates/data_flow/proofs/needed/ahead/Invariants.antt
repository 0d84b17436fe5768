use Rattle.std.proofs.Common.{◌≡◌, drop}
use Rattle.data_flow.specs.Rows.{ahead_from}
use Rattle.data_flow.proofs.needed.ahead.Given as goal

abbrev pub invariant-loop-step : goal.invariant-loop-step
invariant-loop-step l = ahead_from l.bound l.puts l.needs l.all (drop l.step-index l.steps) ≡ ahead_from l.bound l.puts l.needs l.fn.first l.steps
