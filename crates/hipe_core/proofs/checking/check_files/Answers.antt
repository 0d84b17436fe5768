use Rattle.hipe_core.proofs.CheckingLaw.{few_units}
use Rattle.hipe_core.proofs.checking.check_files.Goals as goal

pub write_lines-requires : goal.write_lines-requires
write_lines-requires g c = rw c.modules.ensures (few_units c.in-Ok.checked c.in-Ok.ensures.modules.profiled.profile)
