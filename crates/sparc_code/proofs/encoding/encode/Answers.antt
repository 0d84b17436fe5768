use Rattle.std.proofs.Common.{sym}
use Rattle.sparc_code.proofs.Laws.{decoded_all}
use Rattle.sparc_code.proofs.encoding.encode.Goals as goal

pub returns-clause-decodes : goal.returns-clause-decodes
returns-clause-decodes c = decoded_all c.word_of.result c.args.i.now c.requires (sym c.word_of.ensures)
