use Rattle.std.proofs.Common.{◌≤◌}
use Rattle.prim_gates.proofs.Growing.{IsPushing}
use Rattle.prim_gates.specs.Chain.{kept_down}
use Rattle.prim_gates.proofs.lists.push_kept.Given as goal

abbrev pub invariant-cells : goal.invariant-cells
invariant-cells g l = record {
  pushing : IsPushing g.H.HeapWords.Grows g.H.Words.store g.H.HeapWords.room g.H.HeapWords.end l.initial.heap (kept_down l.scratch l.count) l.end l.heap l.tail (kept_down l.scratch l.left);
  within : l.left ≤ l.count;
}

abbrev pub decreases-cells : goal.decreases-cells
decreases-cells g l = l.left
