use Rattle.liveness.proofs.Columns.{ColumnsTo}
use Rattle.liveness.proofs.graph.live.Given as goal

abbrev pub invariant-loop-block : goal.invariant-loop-block
invariant-loop-block l = ColumnsTo l.graph l.block l.columns
