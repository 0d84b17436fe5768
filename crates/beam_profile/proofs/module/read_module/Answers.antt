use Rattle.beam_profile.specs.declared.module.TheConstants.{LAST_INDEX}
use Rattle.beam_profile.proofs.Modules.{written_is, back_is}
use Rattle.beam_profile.proofs.FewItems.{few_is}
use Rattle.beam_profile.proofs.module.read_module.Goals as goal

pub returns-clause-written : goal.returns-clause-written
returns-clause-written c = written_is LAST_INDEX c.args.text c.read_within.result c.read_within.ensures

pub returns-clause-read : goal.returns-clause-read
returns-clause-read c = back_is LAST_INDEX c.args.text c.read_within.result c.read_within.ensures

pub returns-clause-few : goal.returns-clause-few
returns-clause-few c = few_is LAST_INDEX c.args.text c.read_within.result (written_is LAST_INDEX c.args.text c.read_within.result c.read_within.ensures)
