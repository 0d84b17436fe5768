use Rattle.std.proofs.Common.{◌≡◌, ◌+◌, ◌*◌, map, drop}
use Rattle.term_tree.specs.Term.{tree_of}
use Rattle.term_tree.specs.Tree.{Tree, conses, trees_of}
use Rattle.word_terms.specs.Standing.{all_stand, stands}
use Rattle.word_terms.proofs.standing.+stands.Given as goal

-- what is left decides
abbrev pub invariant-behind_items-loop-item : goal.invariant-behind_items-loop-item
invariant-behind_items-loop-item g l =
    (end : Tree) → stands (g.W.Words.store l.words) l.atoms l.spot.limit l.spot.word (conses (map tree_of (drop l.item-index l.items)) end)
    ≡ stands (g.W.Words.store l.words) l.atoms l.fn.first.limit l.fn.first.word (conses (map tree_of l.items) end)

abbrev pub invariant-all_stand-loop-item : goal.invariant-all_stand-loop-item
invariant-all_stand-loop-item g l = record {
  place : l.at ≡ l.tuple + 4 * l.item-index;
  left :
      all_stand (g.W.Words.store l.words) l.atoms l.tuple (l.at + 4) (trees_of (map tree_of (drop l.item-index l.items)))
      ≡ all_stand (g.W.Words.store l.words) l.atoms l.tuple (l.tuple + 4) (trees_of (map tree_of l.items));
}
