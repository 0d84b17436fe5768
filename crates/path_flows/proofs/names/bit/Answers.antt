use Rattle.std.proofs.Common.{arith, inl, inr}
use Rattle.path_flows.proofs.Bits.{bit_none, bit_one}
use Rattle.path_flows.proofs.names.bit.Goals as goal

pub returns-then-name-from : goal.returns-then-name-from
returns-then-name-from c = bit_none c.args.name c.args.from (inl (omega arith))

pub returns-then-name-from-ge128 : goal.returns-then-name-from-ge128
returns-then-name-from-ge128 c = bit_none c.args.name c.args.from (inr (omega arith))

pub returns-else-name-from-ge128 : goal.returns-else-name-from-ge128
returns-else-name-from-ge128 c = bit_one c.args.name c.args.from (omega arith) (omega arith)
