use Rattle.std.proofs.Common.{◌≤◌}
use Rattle.tagged_words.specs.Word.{nil_word}
use Rattle.prim_gates.proofs.Growing.{IsPushing}
use Rattle.prim_gates.specs.Chain.{reads_down}
use Rattle.prim_gates.proofs.tuples.push_elements.Given as goal

abbrev pub invariant-elements : goal.invariant-elements
invariant-elements g l = record {
  pushing : IsPushing g.H.HeapWords.Grows g.H.Words.store g.H.HeapWords.room g.H.HeapWords.end l.initial.heap (reads_down (g.H.Words.store l.initial.heap) l.at l.count) nil_word
      l.heap l.tail (reads_down (g.H.Words.store l.initial.heap) l.at l.left);
  within : l.left ≤ l.count;
}

abbrev pub decreases-elements : goal.decreases-elements
decreases-elements g l = l.left
