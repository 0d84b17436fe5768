-- Each move leads to an item.
use Rattle.path_rules.proofs.Staying.{free_stays}
use Rattle.path_rules.proofs.laws.paths_stay.Goals as goal

pub returns : goal.returns
returns c = free_stays
