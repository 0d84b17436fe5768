use Rattle.std.proofs.Common.{◌≡◌, take}
use Rattle.term_tree.proofs.term.+copy.Given as goal

abbrev pub invariant-copy_row-loop-term : goal.invariant-copy_row-loop-term
invariant-copy_row-loop-term l = l.copies ≡ take l.term-index l.terms
