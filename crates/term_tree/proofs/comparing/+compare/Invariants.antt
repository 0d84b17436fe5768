use Rattle.std.proofs.Common.{◌≡◌, map, drop}
use Rattle.term_tree.specs.Term.{tree_of}
use Rattle.term_tree.specs.Order.{order_front}
use Rattle.term_tree.proofs.comparing.+compare.Given as goal

-- what is left decides
abbrev pub invariant-compare_front-loop-i : goal.invariant-compare_front-loop-i
invariant-compare_front-loop-i l = order_front (map tree_of (drop l.i l.items)) (map tree_of (drop l.i l.others)) ≡ order_front (map tree_of l.items) (map tree_of l.others)
