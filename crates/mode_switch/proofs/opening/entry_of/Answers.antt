use Rattle.mode_switch.proofs.Starts.{native_fits}
use Rattle.mode_switch.proofs.opening.entry_of.Goals as goal

pub returns-in-Some-clause-fits : goal.returns-in-Some-clause-fits
returns-in-Some-clause-fits c = native_fits c.args.image.now.parts c.args.fid c.in-Some.entry c.requires.fitting c.in-Some.ensures
