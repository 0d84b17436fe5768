use Rattle.data_flow.specs.Rows.{FirstLooks}
use Rattle.data_flow.proofs.needed.look_at_all.Given as goal

abbrev pub invariant-loop-i : goal.invariant-loop-i
invariant-loop-i l = FirstLooks l.flow l.needs l.pending.items l.i
