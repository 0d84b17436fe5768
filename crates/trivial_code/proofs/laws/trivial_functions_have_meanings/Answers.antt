-- The law itself.
use Rattle.trivial_code.proofs.Law.{trivial_functions_have_meanings}
use Rattle.trivial_code.proofs.laws.trivial_functions_have_meanings.Goals as goal

pub returns : goal.returns
returns c = trivial_functions_have_meanings
