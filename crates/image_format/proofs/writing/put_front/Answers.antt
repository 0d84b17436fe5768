use Rattle.std.proofs.Common.{arith}
use Rattle.image_format.proofs.Widths.{All-within_total}
use Rattle.beam_code.specs.declared.module.TheConstants.{MOST_TEXT_BYTES}
use Rattle.image_format.proofs.writing.put_front.Goals as goal

pub put_texts-requires : goal.put_texts-requires
put_texts-requires c = rw c.as_slice.ensures (All-within_total MOST_TEXT_BYTES c.args.parts.now.texts c.requires.text_bytes (omega arith))
