-- Where the rules hold no path ended another, so each rule saw them all.
use Rattle.path_rules.proofs.Profiled.{profile_keeps}
use Rattle.path_rules.proofs.laws.paths_keep_rules.Goals as goal

pub returns : goal.returns
returns c = profile_keeps
