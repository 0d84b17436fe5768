use Rattle.std.proofs.Common.{◌≡◌, ◌+◌, ◌*◌, map, drop}
use Rattle.tagged_words.specs.Laid.{words_in_turn}
use Rattle.term_tree.specs.Term.{tree_of}
use Rattle.word_laying.specs.Count.{row_words}
use Rattle.word_laying.specs.Written.{written}
use Rattle.word_laying.proofs.laying.lay_words.Given as goal

abbrev pub invariant-loop-item : goal.invariant-loop-item
invariant-loop-item l = record {
  words : written l.block l.next (words_in_turn l.atoms l.end (map tree_of (drop l.item-index l.items))) ≡ written l.fn.block l.at (words_in_turn l.atoms l.first (map tree_of l.items));
  next : l.next ≡ l.at + 4 * l.item-index;
  end : l.end + 4 * row_words 0 (map tree_of (drop l.item-index l.items)) ≡ l.first + 4 * row_words 0 (map tree_of l.items);
}
