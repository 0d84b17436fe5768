use Rattle.std.proofs.Common.{◌≡◌, ◌+◌, ◌-◌, ◌^◌, ◌≤◌, map, drop}
use Rattle.term_tree.specs.Term.{tree_of}
use Rattle.word_laying.specs.Count.{saturated, row_words}
use Rattle.word_laying.proofs.counting.+words_of.Given as goal

-- what is left adds up to the whole
abbrev pub invariant-words_of_row-loop-item : goal.invariant-words_of_row-loop-item
invariant-words_of_row-loop-item l = record {
  sum : saturated (l.count + row_words l.each (map tree_of (drop l.item-index l.items))) ≡ saturated (row_words l.each (map tree_of l.items));
  small : l.count ≤ 2 ^ 64 - 1;
}
