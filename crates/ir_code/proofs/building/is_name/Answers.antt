use Rattle.ir_code.proofs.Ready.{is_a_name}
use Rattle.ir_code.proofs.building.is_name.Goals as goal

pub returns : goal.returns
returns c = is_a_name c.args.name.now c.as_str-text.ensures.utf8 c.as_str-text.ensures.short
