use Rattle.native_link.proofs.Tables.{nothing_in_vain}
use Rattle.native_link.proofs.laws.nothing_is_asked_in_vain.Goals as goal

pub returns : goal.returns
returns c = nothing_in_vain
