use Rattle.native_link.proofs.Second.{first_fault}
use Rattle.native_link.proofs.image.parts_of.Goals as goal

pub returns-in-Err : goal.returns-in-Err
returns-in-Err c = record { found = tt; read = tt; fault = rw c.from.ensures (first_fault c.args.bytes.now c.in-Err.e c.in-Err.ensures.exact) }
