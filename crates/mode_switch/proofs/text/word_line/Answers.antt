-- Something is seen from the word, and what is said of its text is said of that.
use Rattle.std.proofs.Common.{string_bytes}
use Rattle.mode_switch.proofs.Lines.{seen_line}
use Rattle.word_walks.specs.Texts.{spelling_of}
use Rattle.mode_switch.proofs.text.word_line.Goals as goal

pub returns-clause-line : goal.returns-clause-line
returns-clause-line g c =
    seen_line (λ t. (string_bytes t.0, t.1)) (g.W.Words.store c.args.words.now) c.args.atoms.now c.args.head.now c.args.status c.args.word (spelling_of c.in_ok-text.text) c.term_line.result
    c.in_ok-text.ensures.answer c.term_line.ensures
