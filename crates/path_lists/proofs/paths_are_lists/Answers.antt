use Rattle.path_lists.proofs.Same.{paths_are_lists as law}
use Rattle.path_lists.proofs.paths_are_lists.Goals as goal

pub returns : goal.returns
returns c = law
