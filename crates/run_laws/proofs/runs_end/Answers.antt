use Rattle.run_laws.proofs.Running as law
use Rattle.run_laws.proofs.runs_end.Goals as goal

pub returns : goal.returns
returns c = law.runs_end
