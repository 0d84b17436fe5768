-- The mentions so far, and those of the functions that are left.
use Rattle.std.proofs.Common.{◌≡◌, ◌++◌, drop, flat_map}
use Rattle.ir_code.specs.Mentions.{function_mentions}
use Rattle.ir_code.specs.Shown.{shown}
use Rattle.ir_code.proofs.mentioning.put_functions.Given as goal

abbrev pub invariant-loop-function : goal.invariant-loop-function
invariant-loop-function l = shown l.all.items ++ flat_map function_mentions (drop l.function-index l.functions) ≡ shown l.fn.all.items ++ flat_map function_mentions l.functions
