use Rattle.std.proofs.Common.{◌≡◌, drop}
use Rattle.path_flows.specs.Sets as spec
use Rattle.path_flows.proofs.names.with_operands.Given as goal

abbrev pub invariant-loop-operand : goal.invariant-loop-operand
invariant-loop-operand l = spec.with_operands l.stack (drop l.operand-index l.operands) l.all ≡ spec.with_operands l.stack l.operands l.fn.set
