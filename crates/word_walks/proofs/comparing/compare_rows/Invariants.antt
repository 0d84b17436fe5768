use Rattle.word_walks.proofs.Comparison.{Walks}
use Rattle.word_walks.proofs.Walking.{to_do}
use Rattle.word_walks.proofs.comparing.compare_rows.Given as goal

abbrev pub invariant-pairs : goal.invariant-pairs
invariant-pairs g l = Walks (g.W.Words.store l.words) l.atoms l.fn.first l.rows l.place

abbrev pub decreases-pairs : goal.decreases-pairs
decreases-pairs g l = to_do (g.W.Words.store l.words) l.rows l.place
