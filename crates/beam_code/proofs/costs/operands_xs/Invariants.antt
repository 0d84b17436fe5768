-- The greatest so far, and that of the operands that are left.
use Rattle.std.proofs.Common.{◌≡◌, max, drop}
use Rattle.beam_code.specs.Registers.{operands_xs}
use Rattle.beam_code.proofs.costs.operands_xs.Given as goal

abbrev pub invariant-loop-s : goal.invariant-loop-s
invariant-loop-s l = max l.most (operands_xs (drop l.s-index l.all)) ≡ operands_xs l.all
