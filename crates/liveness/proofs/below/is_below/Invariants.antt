use Rattle.std.proofs.Common.{◌≡◌, drop}
use Rattle.liveness.specs.Whole.{all_below}
use Rattle.liveness.proofs.below.is_below.Given as goal

abbrev pub invariant-loop-number : goal.invariant-loop-number
invariant-loop-number l = all_below l.most (drop l.number-index l.list) ≡ all_below l.most l.list
