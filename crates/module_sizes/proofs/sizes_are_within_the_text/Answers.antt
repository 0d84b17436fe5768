-- What the bytes of a text bear.
use Rattle.module_sizes.proofs.Modules.{module_within}
use Rattle.module_sizes.proofs.sizes_are_within_the_text.Goals as goal

pub returns : goal.returns
returns c = module_within
