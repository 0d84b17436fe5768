use Rattle.term_tree.proofs.Utf8Order.{texts_order}
use Rattle.term_tree.proofs.laws.bytes_go_as_characters.Goals as goal

pub returns : goal.returns
returns c = texts_order
