use Rattle.native_link.proofs.Second.{parts_read_again}
use Rattle.native_link.proofs.laws.the_parts_are_read_again.Goals as goal

pub returns : goal.returns
returns c = parts_read_again
