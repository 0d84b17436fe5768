use Rattle.run_laws.proofs.Kept as law
use Rattle.run_laws.proofs.example.example_is_checked.Goals as goal

pub returns : goal.returns
returns c = law.example_is_checked
