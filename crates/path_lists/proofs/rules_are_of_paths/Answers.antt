use Rattle.path_lists.proofs.Same.{rules_are_of_paths as law}
use Rattle.path_lists.proofs.rules_are_of_paths.Goals as goal

pub returns : goal.returns
returns c = law
