-- The mentions so far, and those of the branches that are left.
use Rattle.std.proofs.Common.{◌≡◌, ◌++◌, drop, flat_map, map}
use Rattle.ir_code.specs.Mentions.{operand_mentions}
use Rattle.ir_code.specs.Shown.{shown}
use Rattle.ir_code.proofs.mentioning.put_cases.Given as goal

abbrev pub invariant-loop-case : goal.invariant-loop-case
invariant-loop-case l = shown l.all.items ++ flat_map operand_mentions (map (λ c. c.value) (drop l.case-index l.cases)) ≡ shown l.fn.all.items ++ flat_map operand_mentions (map (λ c. c.value) l.cases)
