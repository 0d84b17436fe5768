use Rattle.run_laws.proofs.Brief as law
use Rattle.run_laws.proofs.activations_follow_paths.Goals as goal

pub returns : goal.returns
returns c = law.activations_follow_paths
