-- The names so far, and those of the terms that are left.
use Rattle.std.proofs.Common.{◌≡◌, drop, map}
use Rattle.tagged_words.specs.Laid.{with_atoms_of}
use Rattle.term_tree.specs.Term.{tree_of}
use Rattle.ir_code.proofs.adding.+add_atoms.Given as goal

abbrev pub invariant-add_row-loop-item : goal.invariant-add_row-loop-item
invariant-add_row-loop-item l = with_atoms_of l.atoms (map tree_of (drop l.item-index l.items)) ≡ with_atoms_of l.fn.atoms (map tree_of l.items)
