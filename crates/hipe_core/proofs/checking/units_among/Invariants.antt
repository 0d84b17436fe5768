use Rattle.std.proofs.Common.{◌≡◌, ◌+◌, drop}
use Rattle.hipe_core.specs.Checking.{units_among}
use Rattle.hipe_core.proofs.checking.units_among.Given as goal

abbrev pub invariant-loop-function : goal.invariant-loop-function
invariant-loop-function l = l.sum + units_among (drop l.function-index l.functions) ≡ units_among l.functions
