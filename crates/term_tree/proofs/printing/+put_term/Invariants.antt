use Rattle.std.proofs.Common.{◌≡◌, ◌++◌, map, take}
use Rattle.std.specs.String.{string_bytes}
use Rattle.term_tree.specs.Term.{tree_of}
use Rattle.term_tree.specs.Text.{joined}
use Rattle.term_tree.proofs.printing.+put_term.Given as goal

abbrev pub invariant-put_row-loop-i : goal.invariant-put_row-loop-i
invariant-put_row-loop-i l = string_bytes l.out ≡ string_bytes l.fn.out ++ joined (map tree_of (take l.i l.items))
