use Rattle.word_terms.proofs.StandingLaws.{word_stands_for_term}
use Rattle.word_terms.proofs.laws.a_word_stands_for_a_term.Goals as goal

pub returns : goal.returns
returns c = word_stands_for_term
