use Rattle.beam_code.specs.declared.module.TheConstants.{MOST_TEXT_BYTES}
use Rattle.native_link.proofs.Second.{all_within}
use Rattle.native_link.proofs.image.built_of.Goals as goal

pub check_texts-requires : goal.check_texts-requires
check_texts-requires c = rw c.as_slice.ensures (all_within MOST_TEXT_BYTES c.args.parts.now.texts c.requires.short)
