use Rattle.data_flow.specs.Rows.{IsSettling, work}
use Rattle.data_flow.proofs.needed.settle.Given as goal

abbrev pub invariant-loop-at : goal.invariant-loop-at
invariant-loop-at l = IsSettling l.flow l.needs l.pending.items

abbrev pub decreases-loop-at : goal.decreases-loop-at
decreases-loop-at l = work l.needs l.pending.items
