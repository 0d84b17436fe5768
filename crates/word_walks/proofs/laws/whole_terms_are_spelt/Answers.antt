-- The law itself.
use Rattle.word_walks.proofs.WholeTexts.{whole_terms_are_spelt}
use Rattle.word_walks.proofs.laws.whole_terms_are_spelt.Goals as goal

pub returns : goal.returns
returns c = whole_terms_are_spelt
