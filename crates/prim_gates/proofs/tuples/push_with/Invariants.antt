use Rattle.std.proofs.Common.{◌≡◌, ◌+◌}
use Rattle.prim_gates.proofs.Growing.{IsWriting}
use Rattle.prim_gates.specs.Chain.{with_place}
use Rattle.prim_gates.proofs.tuples.push_with.Given as goal

abbrev pub invariant-elements : goal.invariant-elements
invariant-elements g l = record {
  writing : IsWriting g.H.HeapWords.Grows g.H.Words.store g.H.HeapWords.room g.H.HeapWords.end l.initial.heap (with_place (g.H.Words.store l.initial.heap) l.at 1 l.count l.index l.new)
      l.heap (with_place (g.H.Words.store l.initial.heap) l.at l.place l.left l.index l.new);
  sum : l.place + l.left ≡ l.count + 1;
}

abbrev pub decreases-elements : goal.decreases-elements
decreases-elements g l = l.left
