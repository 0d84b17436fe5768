use Rattle.prim_gates.proofs.Growing.{IsPushing}
use Rattle.prim_gates.specs.Chain.{heads_by, IsChain}
use Rattle.prim_gates.proofs.lists.push_heads.Given as goal

abbrev pub invariant-cells : goal.invariant-cells
invariant-cells g l = record {
  pushing : IsPushing g.H.HeapWords.Grows g.H.Words.store g.H.HeapWords.room g.H.HeapWords.end l.initial.heap (heads_by (g.H.Words.store l.initial.heap) l.list l.count) l.end
      l.heap l.tail (heads_by (g.H.Words.store l.initial.heap) l.word l.left);
  chain : IsChain (g.H.Words.store l.initial.heap) l.word l.left;
}

abbrev pub decreases-cells : goal.decreases-cells
decreases-cells g l = l.left
