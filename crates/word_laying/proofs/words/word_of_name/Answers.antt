use Rattle.word_laying.proofs.Numbers.{number_is}
use Rattle.word_laying.proofs.words.word_of_name.Goals as goal

pub returns : goal.returns
returns c = let number = number_is c.args.atoms.now c.args.name.now in cc (c.atom.ensures.word)
