use Rattle.run_laws.proofs.Brief as law
use Rattle.run_laws.proofs.activations_are_short.Goals as goal

pub returns : goal.returns
returns c = law.activations_are_short
