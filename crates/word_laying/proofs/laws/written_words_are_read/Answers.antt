use Rattle.word_laying.proofs.WrittenLaws.{read, regions_stay}
use Rattle.word_laying.proofs.laws.written_words_are_read.Goals as goal

pub returns-clause-read : goal.returns-clause-read
returns-clause-read c = read

pub returns-clause-stay : goal.returns-clause-stay
returns-clause-stay c = regions_stay
