use Rattle.word_walks.proofs.Cells.{first_word}
use Rattle.word_walks.proofs.comparing.meet_first.Goals as goal

pub word_there-left-requires : goal.word_there-left-requires
word_there-left-requires g c = first_word (g.W.Words.store c.args.words.now) c.args.row.left c.args.row.count c.requires.some c.requires.left

pub word_there-right-requires : goal.word_there-right-requires
word_there-right-requires g c = first_word (g.W.Words.store c.args.words.now) c.args.row.right c.args.row.count c.requires.some c.requires.right
