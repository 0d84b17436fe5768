-- What the forms of each function say of it.
use Rattle.form_ranges.proofs.Texts.{functions_read}
use Rattle.form_ranges.proofs.functions_are_read.Goals as goal

pub returns : goal.returns
returns c = functions_read
