-- The law itself.
use Rattle.trivial_code.proofs.Checked.{trivial_functions_are_ready}
use Rattle.trivial_code.proofs.laws.trivial_functions_are_ready.Goals as goal

pub returns : goal.returns
returns c = trivial_functions_are_ready
