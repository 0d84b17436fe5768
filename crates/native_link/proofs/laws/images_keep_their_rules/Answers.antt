use Rattle.native_link.proofs.Tables.{they_keep_their_rules}
use Rattle.native_link.proofs.laws.images_keep_their_rules.Goals as goal

pub returns : goal.returns
returns c = they_keep_their_rules
