use Rattle.term_tree.specs.Term.{tree_of}
use Rattle.word_laying.proofs.Parts.{can_be_laid}
use Rattle.word_laying.proofs.laying.lay.Goals as goal

pub lay_in-next-requires-clause-fits : goal.lay_in-next-requires-clause-fits
lay_in-next-requires-clause-fits c = can_be_laid c.args.atoms.now (tree_of c.args.term.now) c.requires.term c.requires.named

pub word_of-word-requires-clause-fits : goal.word_of-word-requires-clause-fits
word_of-word-requires-clause-fits c = can_be_laid c.args.atoms.now (tree_of c.args.term.now) c.requires.term c.requires.named
