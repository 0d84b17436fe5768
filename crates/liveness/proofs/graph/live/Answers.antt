use Rattle.std.proofs.Common.{◌*◌, ◌≤◌, length, arith}
use Rattle.liveness.proofs.Columns.{one_more_column, rows_are}
use Rattle.liveness.proofs.graph.live.Goals as goal

pub loop-block-preserved : goal.loop-block-preserved
loop-block-preserved c = rw c.in_ok-push.ensures.ok (one_more_column c.args.graph.now c.loop-block.block c.loop-block.columns c.in_ok-column.column c.loop-block.invariant c.in_ok-column.ensures)

pub returns : goal.returns
returns c =
    let long = c.loop-block.invariant.long in
    let enough : c.args.graph.now.names ≤ length c.loop-block.columns * 64 = omega arith in
    rows_are c.args.graph.now (record { columns = c.loop-block.columns }) c.requires enough c.loop-block.invariant.each
