use Rattle.ir_code.proofs.Holding.{they_hold}
use Rattle.ir_code.proofs.laws.constants_hold.Goals as goal

pub returns : goal.returns
returns c = they_hold
