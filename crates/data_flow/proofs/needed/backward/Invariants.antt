use Rattle.std.proofs.Common.{◌≡◌, length}
use Rattle.data_flow.proofs.needed.backward.Given as goal

abbrev pub invariant-loop : goal.invariant-loop
invariant-loop l = length l.prev.items ≡ l.counter
