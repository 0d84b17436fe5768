use Rattle.term_tree.proofs.OneTerm.{one_term}
use Rattle.term_tree.proofs.laws.a_tree_has_one_term.Goals as goal

pub returns : goal.returns
returns c = one_term
