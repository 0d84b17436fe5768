use Rattle.printed_terms.proofs.ReadBack.{one_text}
use Rattle.printed_terms.proofs.laws.no_two_terms_print_alike.Goals as goal

pub returns : goal.returns
returns c = λ x y left right. one_text x y left.canonical right.canonical left.names right.names left.depth right.depth
