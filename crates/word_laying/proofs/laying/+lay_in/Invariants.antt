use Rattle.std.proofs.Common.{◌≡◌, ◌+◌, ◌*◌, map, drop}
use Rattle.tagged_words.specs.Laid.{laid_in_turn}
use Rattle.term_tree.specs.Term.{tree_of}
use Rattle.word_laying.specs.Count.{row_words}
use Rattle.word_laying.specs.Written.{written}
use Rattle.word_laying.proofs.laying.+lay_in.Given as goal

-- what is left to write
abbrev pub invariant-lay_row-loop-item : goal.invariant-lay_row-loop-item
invariant-lay_row-loop-item l = record {
  words : written l.block l.next (laid_in_turn l.atoms l.next (map tree_of (drop l.item-index l.items))) ≡ written l.fn.block l.at (laid_in_turn l.atoms l.at (map tree_of l.items));
  next : l.next + 4 * row_words 0 (map tree_of (drop l.item-index l.items)) ≡ l.at + 4 * row_words 0 (map tree_of l.items);
}
