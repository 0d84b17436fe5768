use Rattle.run_laws.proofs.Falling as law
use Rattle.run_laws.proofs.ranks_are_of_items.Goals as goal

pub returns : goal.returns
returns c = law.ranks_are_of_items
