use Rattle.std.proofs.Common.{take}
use Rattle.data_flow.specs.Rows.{Notes}
use Rattle.data_flow.proofs.needed.note.Given as goal

abbrev pub invariant-loop-step : goal.invariant-loop-step
invariant-loop-step l = Notes l.node (take l.step-index l.steps) l.initial.prev l.prev
