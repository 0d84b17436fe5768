-- The law itself.
use Rattle.faithful_image.proofs.LineLaw.{faithful_runs_print_their_meaning}
use Rattle.faithful_image.proofs.faithful_runs_print_their_meaning.Goals as goal

pub returns : goal.returns
returns c = faithful_runs_print_their_meaning
