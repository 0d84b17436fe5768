-- The law itself.
use Rattle.trivial_code.proofs.ImageLaw.{compiled_is_an_image}
use Rattle.trivial_code.proofs.laws.compiled_is_an_image.Goals as goal

pub returns : goal.returns
returns c = compiled_is_an_image
