use Rattle.std.proofs.Common.{◌≡◌, true, take}
use Rattle.std.specs.List.{list_all}
use Rattle.term_tree.specs.Term as terms
use Rattle.term_tree.proofs.term.+canonical.Given as goal

abbrev pub invariant-are_canonical-loop-item : goal.invariant-are_canonical-loop-item
invariant-are_canonical-loop-item l = list_all terms.is_canonical (take l.item-index l.items) ≡ true
