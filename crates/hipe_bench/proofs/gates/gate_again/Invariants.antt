use Rattle.std.proofs.Common.{◌<◌, length}
use Rattle.hipe_bench.proofs.gates.gate_again.Given as goal

abbrev pub invariant-loop-i : goal.invariant-loop-i
invariant-loop-i l = l.most < length l.scratch
