use Rattle.std.proofs.Common.{◌≡◌, ◌≤◌, ◌+◌, ◌*◌, ◌^◌, map, take, reverse, length}
use Rattle.term_tree.specs.Term.{tree_of}
use Rattle.word_laying.specs.Count.{row_words}
use Rattle.word_laying.specs.Laying.{cells}
use Rattle.word_laying.specs.Written.{written}
use Rattle.word_laying.proofs.laying.lay_cells.Given as goal

abbrev pub invariant-loop-k : goal.invariant-loop-k
invariant-loop-k l = record {
  words :
      written l.block l.next (cells l.atoms l.end l.next l.rest (reverse (map tree_of (take l.k l.items))))
      ≡ written l.fn.block l.at (cells l.atoms l.items_end l.at l.last (reverse (map tree_of l.items)));
  next : l.next + 8 * l.k ≡ l.at + 8 * length l.items;
  end : 4 * row_words 0 (map tree_of (take l.k l.items)) ≤ l.end;
  short : l.end ≤ 2 ^ 31;
}
