use Rattle.run_laws.proofs.Running as law
use Rattle.run_laws.proofs.states_are_shown.Goals as goal

pub returns : goal.returns
returns c = law.states_are_shown
