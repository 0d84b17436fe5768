-- The law itself.
use Rattle.command_laws.proofs.StatusLaw.{the_status_is_that_of_the_cause}
use Rattle.command_laws.proofs.laws.the_status_is_that_of_the_cause.Goals as goal

pub returns : goal.returns
returns c = the_status_is_that_of_the_cause
