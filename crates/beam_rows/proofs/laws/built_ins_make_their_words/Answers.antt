-- The law itself.
use Rattle.beam_rows.proofs.BuiltInLaws.{built_ins_make_their_words}
use Rattle.beam_rows.proofs.laws.built_ins_make_their_words.Goals as goal

pub returns : goal.returns
returns c = built_ins_make_their_words
