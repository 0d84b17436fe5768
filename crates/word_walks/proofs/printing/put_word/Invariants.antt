use Rattle.std.proofs.Common.{string_bytes}
use Rattle.tagged_words.specs.Look.{address_end}
use Rattle.tagged_words.specs.Seen.{Seen, Sees}
use Rattle.term_tree.specs.Text.{text_of}
use Rattle.word_walks.proofs.Ends.{IsWithin, step_weight}
use Rattle.word_walks.specs.Spelt.{walked, tree_in}
use Rattle.word_walks.specs.Waiting.{StepHolds}
use Rattle.word_walks.proofs.printing.put_word.Given as goal

abbrev pub invariant-loop-walk : goal.invariant-loop-walk
invariant-loop-walk g l = record {
  holds : (v : Seen) → Sees (g.W.Words.store l.words) l.atoms address_end l.word v
      → StepHolds (g.W.Words.store l.words) l.atoms l.rows (string_bytes l.out) l.budget l.step (text_of (tree_in v)) (walked v);
  within : IsWithin (g.W.Words.store l.words) l.rows l.budget l.step;
}

abbrev pub decreases-loop-walk : goal.decreases-loop-walk
decreases-loop-walk g l = step_weight l.budget l.step
