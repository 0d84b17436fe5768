use Rattle.image_format.proofs.Whole.{is_read}
use Rattle.image_format.proofs.writing.image_bytes.Goals as goal

pub returns-clause-read : goal.returns-clause-read
returns-clause-read c = is_read c.bytes_of.result c.args.parts.now c.requires c.bytes_of.ensures.put c.bytes_of.ensures.sized
