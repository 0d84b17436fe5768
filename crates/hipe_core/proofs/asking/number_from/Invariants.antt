use Rattle.std.proofs.Common.{◌≡◌, ◌≤◌, length}
use Rattle.hipe_core.specs.Asking.{number_from}
use Rattle.hipe_core.proofs.asking.number_from.Given as goal

abbrev pub invariant-loop-first : goal.invariant-loop-first
invariant-loop-first l = record {
  within : l.value ≤ l.fn.most;
  number : number_from l.fn.most l.value l.left ≡ number_from l.fn.most 0 l.fn.digits;
}

abbrev pub decreases-loop-first : goal.decreases-loop-first
decreases-loop-first l = length l.left
