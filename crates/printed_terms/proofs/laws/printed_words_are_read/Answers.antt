use Rattle.std.proofs.Common.{arith}
use Rattle.printed_terms.proofs.ReadBack.{word_read, word_form}
use Rattle.printed_terms.proofs.laws.printed_words_are_read.Goals as goal

pub returns : goal.returns
returns c = record {
  argument = (λ x budget nodes text h e. word_read x budget nodes text h.canonical h.names (omega (arith, h.depth)) e);
  form = (λ x budget nodes text h e. word_form x budget nodes text h.canonical h.names h.depth e);
}
