use Rattle.text_tokens.proofs.Bytes.{name-IsUtf8}
use Rattle.text_tokens.proofs.cutting.bare_atom.Goals as goal

pub returns-in-Err : goal.returns-in-Err
returns-in-Err c = absurd (c.in-Err.ensures.cases.0 (rw c.run-count.ensures.count (name-IsUtf8 c.args.bytes.now)))
