use Rattle.word_walks.proofs.WholeTerms.{whole_order}
use Rattle.word_walks.proofs.laws.whole_terms_compare.Goals as goal

pub returns : goal.returns
returns c = whole_order
