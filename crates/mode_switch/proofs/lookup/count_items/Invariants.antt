use Rattle.std.proofs.Common.{◌≡◌, ◌+◌, drop}
use Rattle.mode_switch.specs.Lookup.{length_sum}
use Rattle.mode_switch.proofs.lookup.count_items.Given as goal

abbrev pub invariant-loop-function : goal.invariant-loop-function
invariant-loop-function l = l.items + length_sum (drop l.function-index l.functions) ≡ length_sum l.functions
