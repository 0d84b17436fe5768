-- The law itself.
use Rattle.hipe_core.proofs.MeaningLaw.{compiled_images_are_read}
use Rattle.hipe_core.proofs.laws.compiled_images_are_read.Goals as goal

pub returns : goal.returns
returns c = compiled_images_are_read
