use Rattle.path_flows.proofs.Sets.{slot_name_is}
use Rattle.path_flows.proofs.names.slot_name.Goals as goal

pub returns : goal.returns
returns c = slot_name_is c.args.n c.bit.result c.bit-2.result c.bit.ensures c.bit-2.ensures
