use Rattle.run_laws.proofs.Same as law
use Rattle.run_laws.proofs.handlers_are_static.Goals as goal

pub returns : goal.returns
returns c = law.handlers_are_static
