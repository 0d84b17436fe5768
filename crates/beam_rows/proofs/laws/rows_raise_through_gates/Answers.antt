-- The law itself.
use Rattle.beam_rows.proofs.Raising.{rows_raise_through_gates}
use Rattle.beam_rows.proofs.laws.rows_raise_through_gates.Goals as goal

pub returns : goal.returns
returns c = rows_raise_through_gates
