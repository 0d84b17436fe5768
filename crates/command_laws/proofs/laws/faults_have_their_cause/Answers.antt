-- The law itself.
use Rattle.command_laws.proofs.FaultsLaw.{faults_have_their_cause}
use Rattle.command_laws.proofs.laws.faults_have_their_cause.Goals as goal

pub returns : goal.returns
returns c = faults_have_their_cause
