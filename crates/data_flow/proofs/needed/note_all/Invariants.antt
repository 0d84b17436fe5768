use Rattle.data_flow.proofs.Settling.{Noted}
use Rattle.data_flow.proofs.needed.note_all.Given as goal

abbrev pub invariant-loop-at : goal.invariant-loop-at
invariant-loop-at l = Noted l.nodes l.prev l.at
