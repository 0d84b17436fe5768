use Rattle.std.proofs.Common.{◌∙◌, sym}
use Rattle.word_walks.proofs.Cells.{elements_end}
use Rattle.word_walks.proofs.comparing.meet.Goals as goal

pub meet_tuples-requires-clause-left : goal.meet_tuples-requires-clause-left
meet_tuples-requires-clause-left g c =
    elements_end (g.W.Words.store c.args.words.now) c.args.atoms.now c.args.left_limit c.args.left c.in-Tuple-Tuple.at c.in-Tuple-Tuple.count (g.met.W.Words.has_addresses c.args.words.now) (sym c.look_at-x.ensures ∙ c.in-Tuple-Tuple.is-0)

pub meet_tuples-requires-clause-right : goal.meet_tuples-requires-clause-right
meet_tuples-requires-clause-right g c =
    elements_end (g.W.Words.store c.args.words.now) c.args.atoms.now c.args.right_limit c.args.right c.in-Tuple-Tuple.other c.in-Tuple-Tuple.others (g.met.W.Words.has_addresses c.args.words.now) (sym c.look_at-y.ensures ∙ c.in-Tuple-Tuple.is-1)
