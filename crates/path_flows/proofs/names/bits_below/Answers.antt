use Rattle.std.proofs.Common.{arith}
use Rattle.path_flows.proofs.Bits.{below_all, below_none, below_some}
use Rattle.path_flows.proofs.names.bits_below.Goals as goal

pub returns-then-count-from : goal.returns-then-count-from
returns-then-count-from c = below_none c.args.count c.args.from (omega arith)

pub returns-then-count-from-ge128 : goal.returns-then-count-from-ge128
returns-then-count-from-ge128 c = below_all c.args.count c.args.from (omega arith) (omega arith)

pub returns-else-count-from-ge128 : goal.returns-else-count-from-ge128
returns-else-count-from-ge128 c = below_some c.args.count c.args.from (omega arith) (omega arith)
