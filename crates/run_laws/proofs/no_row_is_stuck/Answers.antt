use Rattle.run_laws.proofs.Running as law
use Rattle.run_laws.proofs.no_row_is_stuck.Goals as goal

pub returns : goal.returns
returns c = law.no_row_is_stuck
