-- The mentions so far, and those of the operands that are left.
use Rattle.std.proofs.Common.{◌≡◌, ◌++◌, drop, flat_map}
use Rattle.ir_code.specs.Mentions.{operand_mentions}
use Rattle.ir_code.specs.Shown.{shown}
use Rattle.ir_code.proofs.mentioning.put_operands.Given as goal

abbrev pub invariant-loop-operand : goal.invariant-loop-operand
invariant-loop-operand l = shown l.all.items ++ flat_map operand_mentions (drop l.operand-index l.operands) ≡ shown l.fn.all.items ++ flat_map operand_mentions l.operands
