use Rattle.word_laying.proofs.WrittenLaws.{as_many}
use Rattle.word_laying.proofs.laws.as_many_words_are_laid.Goals as goal

pub returns : goal.returns
returns c = as_many
