-- The law itself.
use Rattle.trivial_code.proofs.Law.{trivial_functions_are_faithful}
use Rattle.trivial_code.proofs.laws.trivial_functions_are_faithful.Goals as goal

pub returns : goal.returns
returns c = trivial_functions_are_faithful
