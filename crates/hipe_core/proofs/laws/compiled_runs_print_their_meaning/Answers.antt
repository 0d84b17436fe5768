-- The law itself.
use Rattle.hipe_core.proofs.MeaningLaw.{compiled_runs_print_their_meaning}
use Rattle.hipe_core.proofs.laws.compiled_runs_print_their_meaning.Goals as goal

pub returns : goal.returns
returns c = compiled_runs_print_their_meaning
