use Rattle.ir_code.proofs.Knows as knows
use Rattle.ir_code.proofs.laws.known_mentions_have_names.Goals as goal

pub returns : goal.returns
returns c = knows.known_mentions_have_names
