-- A name's place in the table is its number.
use Rattle.word_laying.proofs.Numbers.{number_is}
use Rattle.trivial_code.proofs.building.atom_word.Goals as goal

pub returns : goal.returns
returns c = let number = number_is c.args.atoms.now c.args.name.now in cc (c.atom.ensures.word)
