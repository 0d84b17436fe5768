-- No item lies on a cycle of a path's moves.
use Rattle.path_rules.proofs.Profiled.{profile_ends}
use Rattle.path_rules.proofs.laws.paths_end.Goals as goal

pub returns : goal.returns
returns c = profile_ends
