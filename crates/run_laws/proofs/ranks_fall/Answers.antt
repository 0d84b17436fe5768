use Rattle.run_laws.proofs.Falling as law
use Rattle.run_laws.proofs.ranks_fall.Goals as goal

pub returns : goal.returns
returns c = law.ranks_fall
